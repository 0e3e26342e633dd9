-- The node may take the steps of each command as it stands.
use Rattle.std.proofs.Common.{◌≡◌, ℕ, ◌==◌, ◌&&◌, ◌||◌, nat_le, not, Bool, true, false, List, [], ◌∷◌, length, bytes_eq, Option, Some, None, Result, Ok, Err, is_none, is_some, refl, sym, ap, subst, ◌∙◌, if◌then◌else◌, eq-eqb, eqb-true}
use Rattle.std.proofs.lemmas.Bool.{cond-false, true≢false}
use Rattle.std.proofs.lemmas.Slice.Eq.{bytes_eq-Decides}
use Rattle.std.specs.List.{find, list_all, list_any}
use Rattle.std.specs.Option.{option_map}
use Rattle.mt_tlv.specs.declared.value.Value.{Value}
use Rattle.mt_fabrics.specs.Table.{credentials_at, has_index, has_label, has_others_label, is_used, least_unused}
use Rattle.mt_fabrics.specs.Table as table
use Rattle.mt_fabrics.specs.declared.fault.FabricFault.TheVariants as conflicts
use Rattle.mt_failsafe.specs.Notes.{is_for_new, is_for_update, is_unused, may_note_added, may_note_csr, may_note_root, may_note_updated, was_added}
use Rattle.mt_failsafe.specs.Calls.{is_armed_by, is_context}
use Rattle.mt_model.specs.messages.Effects.{refused_at}
use Rattle.mt_model.specs.tables.Known.{Known}
use Rattle.mt_model.specs.texts.Config.{has_identity, is_operational, is_pase, may_be_subject}
use Rattle.mt_model.specs.declared.messages.status.Status.{Status}
use Rattle.mt_model.specs.declared.messages.status.Status.TheVariants.{ConstraintError, FailsafeRequired, InvalidCommand, UnsupportedCommand}
use Rattle.mt_model.specs.declared.node.action.Effect.{Effect}
use Rattle.mt_model.specs.declared.node.action.NodeStep.TheVariants.{Expire, Label}
use Rattle.mt_model.specs.declared.rows.place.Place.{Place}
use Rattle.mt_model.specs.declared.tables.access.Actor.{Actor}
use Rattle.mt_model.specs.declared.tables.access.Auth.TheVariants.{Case}
use Rattle.mt_model.specs.declared.tables.fabric.Credentials.{Credentials}
use Rattle.mt_model.specs.declared.tables.fabric.Fabric.{Fabric}
use Rattle.mt_model.specs.declared.tables.network.Armed.{Armed}
use Rattle.mt_model.specs.declared.texts.config.CsrRow.{CsrRow}
use Rattle.mt_model.specs.declared.texts.config.JoinRow.{JoinRow}
use Rattle.mt_model.specs.declared.texts.config.RootRow.{RootRow}
use Rattle.mt_opcreds.proofs.Choices.{either, none_there, not_first, not_true}
use Rattle.mt_opcreds.specs.AddNoc.{add_if, add_judged, add_noc_effect, add_refusal, add_under, add_with, new_credentials, new_fabric, subject_in}
use Rattle.mt_opcreds.specs.AddTrustedRoot.{add_root_effect, cert_in, root_answered, root_under}
use Rattle.mt_opcreds.specs.CsrRequest.{csr_answered, csr_request_effect, csr_under, is_update_in, nonce_in}
use Rattle.mt_opcreds.specs.Fields.{icac_in, noc_in}
use Rattle.mt_opcreds.specs.Judged.{Judged, chain_verdict, csr_verdict, root_verdict}
use Rattle.mt_opcreds.specs.Laws.{StepsFit, fits, is_identity_of}
use Rattle.mt_opcreds.specs.Owner.{owned_by}
use Rattle.mt_opcreds.specs.RemoveFabric.{index_in, leaving, removal_steps, remove_effect, removed}
use Rattle.mt_opcreds.specs.Responses.{noc_done, noc_refused}
use Rattle.mt_opcreds.specs.UpdateFabricLabel.{label_in, labelled, update_label_effect}
use Rattle.mt_opcreds.specs.UpdateNoc.{renewed, update_if, update_judged, update_noc_effect, update_of, update_refusal, update_under, update_with}
use Rattle.mt_opcreds.specs.declared.fault.CertificateFault.{CertificateFault}
use Rattle.mt_opcreds.specs.declared.fault.CertificateFault.TheVariants.{FabricConflict, InvalidAdminSubject, InvalidNodeOpId, InvalidPublicKey, LabelConflict, TableFull}

abbrev Takes : Known → Effect → Type 0
Takes known effect = list_all (fits known) effect.steps ≡ true

-- the fail-safe under which a fabric may commission is what is armed, by that fabric, and none was added or updated under it
owned : (fabric : ℕ) (armed : Option Armed) (mine : Armed) → owned_by fabric armed ≡ Ok mine → (armed ≡ Some mine) × ((mine.owner == fabric) ≡ true) × (is_unused mine ≡ true)
owned fabric None mine is = absurd (cc)
owned fabric (Some armed) mine is = by_tests (armed.owner == fabric) (is_unused armed) refl refl is
  where
    by_tests : (own unused : Bool) → (armed.owner == fabric) ≡ own → is_unused armed ≡ unused
        → (if not own then Err FailsafeRequired else if not unused then Err ConstraintError else Ok armed) ≡ Ok mine → (Some armed ≡ Some mine) × ((mine.owner == fabric) ≡ true) × (is_unused mine ≡ true)
    by_tests false unused owns is_so e = absurd (cc)
    by_tests true false owns is_so e = absurd (cc)
    by_tests true true owns is_so e =
        let inside : armed ≡ mine = cc in
        (ap Some inside, subst (λ (a : Armed). (a.owner == fabric) ≡ true) inside owns, subst (λ (a : Armed). is_unused a ≡ true) inside is_so)

-- CSRRequest

-- an update is not asked for over PASE, so whoever asks for it is of a fabric
csr_of : (update pase nobody : Bool) → (update && pase) ≡ false → (pase || not nobody) ≡ true → (not update || not nobody) ≡ true
csr_of false pase nobody e of = refl
csr_of true true nobody e of = absurd (true≢false e)
csr_of true false nobody e of = of

module _ (judged : Judged) (known : Known) (actor : Actor) (command : Place) (fields : Value) where
  csr_answered-takes : (row : Option CsrRow) → may_note_csr (is_update_in fields) known.armed ≡ true → Takes known (csr_answered command fields row)
  csr_answered-takes None may = refl
  csr_answered-takes (Some row) may = λ i. (may i && true) && true

  csr_takes : (is_pase actor.auth || not (actor.fabric == 0)) ≡ true → (armed : Result Armed Status) → owned_by actor.fabric known.armed ≡ armed → Takes known (csr_under judged actor command fields armed)
  csr_takes of (Err status) is = refl
  csr_takes of (Ok armed) is =
      let mine = owned actor.fabric known.armed armed is in
      let nobody : (armed.owner == 0) ≡ (actor.fabric == 0) = ap (λ (n : ℕ). n == 0) (eqb-true armed.owner actor.fabric mine.1) in
      either (Takes known) (is_update_in fields && is_pase actor.auth) (refused_at command InvalidCommand) _ (λ _. refl) (λ over.
      csr_answered-takes (csr_verdict judged (nonce_in fields))
      (ap (may_note_csr (is_update_in fields)) mine.0 ∙ (λ i. mine.2 i && (not (is_update_in fields) || not (nobody i)))
      ∙ csr_of (is_update_in fields) (is_pase actor.auth) (actor.fabric == 0) over of))

-- AddNOC

-- an empty label is no fabric's
no_label : (fabrics : List Fabric) → list_any (has_label []) fabrics ≡ false
no_label [] = refl
no_label (fabric ∷ fabrics) = no_label fabrics

new_csr : (csr : Option (List ℕ × Bool)) (given : List ℕ × Bool) → csr ≡ Some given → is_for_update csr ≡ false → is_for_new csr ≡ true
new_csr None given is e = absurd (cc)
new_csr (Some csr) given is e = λ i. not (e i)

module _ (judged : Judged) (known : Known) (command : Place) (fields : Value) where
  -- what the fabric's addition is refused for in the table is refused before
  in_table : (nonce : List ℕ) (credentials : Credentials) (judged_root : RootRow) (chain : JoinRow) (index : ℕ) → credentials.root_key ≡ judged_root.key → credentials.fabric_id ≡ chain.fabric_id
      → add_refusal known.fabrics fields nonce judged_root chain ≡ None → is_none (table.add_refusal (new_fabric index fields credentials) known.fabrics) ≡ true
  in_table nonce credentials judged_root chain index key id e =
      let one = not_first (not (bytes_eq chain.nonce nonce)) InvalidPublicKey _ e in
      let two = not_first (not (is_operational chain.node_id)) InvalidNodeOpId _ one.1 in
      let three = not_first (not (may_be_subject Case (subject_in fields))) InvalidAdminSubject _ two.1 in
      let four = not_first (list_any (has_identity judged_root.key chain.fabric_id) known.fabrics) FabricConflict _ three.1 in
      let five = not_first (nat_le 16 (length known.fabrics)) TableFull _ four.1 in
      let identity : list_any (has_identity credentials.root_key credentials.fabric_id) known.fabrics ≡ false = (λ i. list_any (has_identity (key i) (id i)) known.fabrics) ∙ four.0 in
      λ i. is_none (if identity i then Some conflicts.Conflict else if no_label known.fabrics i then Some conflicts.LabelConflict else if five.0 i then Some conflicts.TableFull else None)

  add_if-takes : (nonce root : List ℕ) (judged_root : RootRow) (chain : JoinRow) → may_note_added known.armed ≡ true
      → (refusal : Option CertificateFault) → add_refusal known.fabrics fields nonce judged_root chain ≡ refusal
      → Takes known (add_if (least_unused known.fabrics) command fields (new_credentials fields root judged_root chain) refusal)
  add_if-takes nonce root judged_root chain may (Some fault) e = refl
  add_if-takes nonce root judged_root chain may None e =
      let index = least_unused known.fabrics in
      let own = eq-eqb index index refl in
      let taken = in_table nonce (new_credentials fields root judged_root chain) judged_root chain index refl refl e in
      λ i. (may i && (taken i && own i)) && ((true && own i) && true)

  add_judged-takes : (nonce root : List ℕ) (judged_root : Option RootRow) (chain : Option JoinRow) → may_note_added known.armed ≡ true → Takes known (add_judged known.fabrics command fields nonce root judged_root chain)
  add_judged-takes nonce root None None may = refl
  add_judged-takes nonce root None (Some chain) may = refl
  add_judged-takes nonce root (Some judged_root) None may = refl
  add_judged-takes nonce root (Some judged_root) (Some chain) may = add_if-takes nonce root judged_root chain may (add_refusal known.fabrics fields nonce judged_root chain) refl

  add_with-takes : (armed : Armed) → known.armed ≡ Some armed → is_unused armed ≡ true → is_for_update armed.csr ≡ false → (csr : Option (List ℕ × Bool)) (root : Option (List ℕ)) → armed.csr ≡ csr → armed.root ≡ root
      → Takes known (add_with judged known.fabrics command fields csr root)
  add_with-takes armed is unused new None root csr_is root_is = refl
  add_with-takes armed is unused new (Some csr) None csr_is root_is = refl
  add_with-takes armed is unused new (Some csr) (Some root) csr_is root_is =
      add_judged-takes csr.0 root (root_verdict judged root) (chain_verdict judged root (noc_in fields) (icac_in fields))
      (ap may_note_added is ∙ (λ i. unused i && (is_some (root_is i) && new_csr armed.csr csr csr_is new i)))

  add_takes : (fabric : ℕ) (armed : Result Armed Status) → owned_by fabric known.armed ≡ armed → Takes known (add_under judged known.fabrics command fields armed)
  add_takes fabric (Err status) is = refl
  add_takes fabric (Ok armed) is =
      let mine = owned fabric known.armed armed is in
      either (Takes known) (is_for_update armed.csr) (refused_at command ConstraintError) _ (λ _. refl) (λ new.
      add_with-takes armed mine.0 mine.2 new armed.csr armed.root refl refl)

  -- AddTrustedRootCertificate

  root_answered-takes : (cert : List ℕ) (row : Option RootRow) → may_note_root known.armed ≡ true → Takes known (root_answered command cert row)
  root_answered-takes cert None may = refl
  root_answered-takes cert (Some row) may = λ i. (may i && true) && true

  root_takes : (fabric : ℕ) (armed : Result Armed Status) → owned_by fabric known.armed ≡ armed → Takes known (root_under judged command fields armed)
  root_takes fabric (Err status) is = refl
  root_takes fabric (Ok armed) is =
      let mine = owned fabric known.armed armed is in
      either (Takes known) (is_some armed.root) (refused_at command ConstraintError) _ (λ _. refl) (λ rootless.
      root_answered-takes (cert_in fields) (root_verdict judged (cert_in fields)) (ap may_note_root mine.0 ∙ (λ i. mine.2 i && none_there armed.root rootless i)))

-- UpdateNOC

-- a fabric whose credentials are there has an index that is used
used : (index : ℕ) (fabrics : List Fabric) (own : Credentials) → credentials_at index fabrics ≡ Some own → is_used index fabrics ≡ true
used index [] own is = absurd (cc)
used index (fabric ∷ fabrics) own is = by_index (fabric.index == index) refl (used index fabrics own)
  where
    by_index : (here : Bool) → (fabric.index == index) ≡ here → (credentials_at index fabrics ≡ Some own → is_used index fabrics ≡ true) → is_used index (fabric ∷ fabrics) ≡ true
    by_index true e rest = λ i. e i || is_used index fabrics
    by_index false e rest =
        let others : credentials_at index (fabric ∷ fabrics) ≡ credentials_at index fabrics =
        ap (option_map (λ (found : Fabric). found.credentials)) (cond-false (fabric.index == index) (Some fabric) (find (has_index index) fabrics) e) in
        (λ i. e i || is_used index fabrics) ∙ rest (sym others ∙ is)

-- 0 is no fabric's index
somebody : (index : ℕ) (fabrics : List Fabric) → is_used 0 fabrics ≡ false → is_used index fabrics ≡ true → not (index == 0) ≡ true
somebody index fabrics nobody used = by_index (index == 0) refl
  where
    by_index : (zero : Bool) → (index == 0) ≡ zero → not (index == 0) ≡ true
    by_index true e = absurd (true≢false (sym used ∙ ap (λ (n : ℕ). is_used n fabrics) (eqb-true index 0 e) ∙ nobody))
    by_index false e = λ i. not (e i)

module _ (judged : Judged) (known : Known) (command : Place) (fields : Value) (index : ℕ) (nobody : is_used 0 known.fabrics ≡ false) where
  update_if-takes : (nonce : List ℕ) (own : Credentials) (chain : JoinRow) → (may_note_updated known.armed && is_armed_by index known.armed) ≡ true → credentials_at index known.fabrics ≡ Some own
      → (refusal : Option CertificateFault) → Takes known (update_if index command (renewed fields own chain) refusal)
  update_if-takes nonce own chain may is (Some fault) = refl
  update_if-takes nonce own chain may is None =
      let same : is_identity_of (renewed fields own chain) (credentials_at index known.fabrics) ≡ true =
      ap (is_identity_of (renewed fields own chain)) is ∙ (λ i. (bytes_eq-Decides own.root_key own.root_key).1 refl i && eq-eqb own.fabric_id own.fabric_id refl i) in
      λ i. (may i && same i) && true

  update_judged-takes : (nonce : List ℕ) (own : Credentials) (chain : Option JoinRow) → (may_note_updated known.armed && is_armed_by index known.armed) ≡ true → credentials_at index known.fabrics ≡ Some own
      → Takes known (update_judged index command fields nonce own chain)
  update_judged-takes nonce own None may is = refl
  update_judged-takes nonce own (Some chain) may is = update_if-takes nonce own chain may is (update_refusal nonce own chain)

  update_of-takes : (nonce : List ℕ) (own : Option Credentials) → (not (index == 0) ≡ true → (may_note_updated known.armed && is_armed_by index known.armed) ≡ true) → credentials_at index known.fabrics ≡ own
      → Takes known (update_of judged index command fields nonce own)
  update_of-takes nonce None may is = refl
  update_of-takes nonce (Some own) may is =
      update_judged-takes nonce own (chain_verdict judged own.root (noc_in fields) (icac_in fields)) (may (somebody index known.fabrics nobody (used index known.fabrics own is))) is

  update_with-takes : (armed : Armed) → known.armed ≡ Some armed → (armed.owner == index) ≡ true → is_unused armed ≡ true → is_none armed.root ≡ true → (csr : Option (List ℕ × Bool)) → armed.csr ≡ csr
      → Takes known (update_with judged known index command fields csr)
  update_with-takes armed is mine unused rootless None csr_is = refl
  update_with-takes armed is mine unused rootless (Some csr) csr_is =
      either (Takes known) (not csr.1) (refused_at command ConstraintError) _ (λ _. refl) (λ e.
      let nobody_is : (armed.owner == 0) ≡ (index == 0) = ap (λ (n : ℕ). n == 0) (eqb-true armed.owner index mine) in
      let for_update : is_for_update armed.csr ≡ true = ap is_for_update csr_is ∙ not_true csr.1 e in
      update_of-takes csr.0 (credentials_at index known.fabrics)
      (λ of. ap (λ (a : Option Armed). may_note_updated a && is_armed_by index a) is
      ∙ (λ i. (unused i && (not (nobody_is i) && (rootless i && for_update i))) && mine i)
      ∙ (λ i. (true && (of i && (true && true))) && true))
      refl)

  update_takes : (armed : Result Armed Status) → owned_by index known.armed ≡ armed → Takes known (update_under judged known index command fields armed)
  update_takes (Err status) is = refl
  update_takes (Ok armed) is =
      let mine = owned index known.armed armed is in
      either (Takes known) (is_some armed.root) (refused_at command ConstraintError) _ (λ _. refl) (λ rootless.
      update_with-takes armed mine.0 mine.1 mine.2 (none_there armed.root rootless) armed.csr refl)

-- UpdateFabricLabel

label_takes : (known : Known) (index : ℕ) (command : Place) (label : List ℕ) → Takes known (labelled known index command label)
label_takes known index command label =
    either (Takes known) (not (nat_le (length label) 32)) (refused_at command ConstraintError) _ (λ _. refl) (λ _.
    either (Takes known) (list_any (has_others_label index label) known.fabrics) (noc_refused command LabelConflict) (noc_done command index (Label index label ∷ [])) (λ _. refl) (λ none.
    λ i. (true && not (none i)) && true))

-- RemoveFabric

removal_takes : (known : Known) (index : ℕ) → is_used index known.fabrics ≡ true → list_all (fits known) (removal_steps index known.armed) ≡ true
removal_takes known index there = by_tests (is_context index known.armed) (was_added index known.armed)
  where
    leaving_takes : list_all (fits known) (leaving index) ≡ true
    leaving_takes = λ i. (true && there i) && ((true && true) && true)

    by_tests : (context added : Bool) → list_all (fits known) (if context then Expire ∷ (if added then [] else leaving index) else leaving index) ≡ true
    by_tests true true = refl
    by_tests true false = leaving_takes
    by_tests false added = leaving_takes

removed_takes : (known : Known) (command : Place) (index : ℕ) → Takes known (removed known command index)
removed_takes known command index = either (Takes known) (is_used index known.fabrics) (noc_done command index (removal_steps index known.armed)) _ (λ there. removal_takes known index there) (λ _. refl)

-- all of them

pub steps_are_taken : StepsFit
steps_are_taken judged known actor command fields nobody of =
    let armed = owned_by actor.fabric known.armed in
    either (Takes known) (command.leaf == 4) (csr_request_effect judged known actor command fields) _ (λ _. csr_takes judged known actor command fields of armed refl) (λ _.
    either (Takes known) (command.leaf == 6) (add_noc_effect judged known actor command fields) _ (λ _. add_takes judged known command fields actor.fabric armed refl) (λ _.
    either (Takes known) (command.leaf == 7) (update_noc_effect judged known actor command fields) _ (λ _. update_takes judged known command fields actor.fabric nobody armed refl) (λ _.
    either (Takes known) (command.leaf == 9) (update_label_effect known actor.fabric command fields) _ (λ _. label_takes known actor.fabric command (label_in fields)) (λ _.
    either (Takes known) (command.leaf == 10) (remove_effect known command fields) _ (λ _. removed_takes known command (index_in fields)) (λ _.
    either (Takes known) (command.leaf == 11) (add_root_effect judged known actor command fields) (refused_at command UnsupportedCommand) (λ _. root_takes judged known command fields actor.fabric armed refl) (λ _. refl))))))
