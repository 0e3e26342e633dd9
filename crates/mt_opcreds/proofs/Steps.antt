-- The steps of each command are well formed.
use Rattle.std.proofs.Common.{inl, inr, ◌≡◌, ℕ, ◌≤◌, ◌^◌, ◌==◌, ◌&&◌, nat_le, nat_lt, not, Bool, true, false, List, [], ◌∷◌, length, bytes_eq, Option, Some, None, Result, Ok, Err, is_some, refl, subst, if◌then◌else◌, eq-eqb, eqb-true, leb-true, arith}
use Rattle.std.proofs.lemmas.Bool.{and_parts, cases_Bool, false≢true, lt-ltb}
use Rattle.std.specs.List.{list_all, list_any}
use Rattle.std.specs.Str.{chars, is_utf8}
use Rattle.mt_tlv.specs.View.{tree}
use Rattle.mt_tlv.specs.declared.value.Value.{Value}
use Rattle.mt_tlv.specs.declared.value.Value.TheVariants as values
use Rattle.mt_fabrics.specs.Table.{credentials_at, has_others_label, is_used, least_unused}
use Rattle.mt_failsafe.specs.Calls.{is_context}
use Rattle.mt_failsafe.specs.Notes.{is_for_update, was_added}
use Rattle.mt_meta.specs.Fields.{has_fields}
use Rattle.mt_meta.specs.Given.{number_of}
use Rattle.mt_meta.specs.Rows.{any_number, any_octets, any_text, needed, optional}
use Rattle.mt_meta.specs.clusters.OperationalCredentials.{add_noc_fields, command_fields, csr_request_fields}
use Rattle.mt_meta.specs.declared.rows.Form.TheVariants as forms
use Rattle.mt_model.specs.Trees.{field_in}
use Rattle.mt_model.specs.messages.Effects.{refused_at}
use Rattle.mt_model.specs.tables.Known.{Known}
use Rattle.mt_model.specs.texts.Config.{are_credentials, is_certificate, is_entry, is_intermediate, is_operational, is_pase, may_be_subject}
use Rattle.mt_model.specs.declared.messages.status.Status.{Status}
use Rattle.mt_model.specs.declared.messages.status.Status.TheVariants.{ConstraintError, InvalidCommand, UnsupportedCommand}
use Rattle.mt_model.specs.declared.node.action.Effect.{Effect}
use Rattle.mt_model.specs.declared.node.action.NodeStep.TheVariants.{Expire, Label}
use Rattle.mt_model.specs.declared.rows.place.Place.{Place}
use Rattle.mt_model.specs.declared.tables.access.Actor.{Actor}
use Rattle.mt_model.specs.declared.tables.access.Auth.TheVariants.{Case}
use Rattle.mt_model.specs.declared.tables.fabric.Credentials.{Credentials}
use Rattle.mt_model.specs.declared.tables.fabric.Fabric.{Fabric}
use Rattle.mt_model.specs.declared.tables.network.Armed.{Armed}
use Rattle.mt_model.specs.declared.texts.config.CsrRow.{CsrRow}
use Rattle.mt_model.specs.declared.texts.config.JoinRow.{JoinRow}
use Rattle.mt_model.specs.declared.texts.config.RootRow.{RootRow}
use Rattle.mt_opcreds.proofs.Choices.{either, not_first, not_true}
use Rattle.mt_opcreds.proofs.Forms.{formed, octets_fit, text_is, typed, within}
use Rattle.mt_opcreds.proofs.Verdicts.{chain_judged, root_judged}
use Rattle.mt_opcreds.specs.AddNoc.{add_if, add_judged, add_noc_effect, add_refusal, add_under, add_with, first_entry, ipk_in, new_credentials, subject_in}
use Rattle.mt_opcreds.specs.AddTrustedRoot.{add_root_effect, cert_in, root_answered, root_under}
use Rattle.mt_opcreds.specs.CsrRequest.{csr_answered, csr_request_effect, csr_under, is_update_in, nonce_in}
use Rattle.mt_opcreds.specs.Fields.{icac_in, noc_in, short_of}
use Rattle.mt_opcreds.specs.Judged.{Judged, chain_verdict, csr_verdict, root_verdict}
use Rattle.mt_opcreds.specs.Laws.{KeepsRules, StepsAreWellFormed, are_credentials_if, is_well_formed}
use Rattle.mt_opcreds.specs.Owner.{owned_by}
use Rattle.mt_opcreds.specs.RemoveFabric.{index_in, leaving, removal_steps, remove_effect, removed}
use Rattle.mt_opcreds.specs.Responses.{noc_done, noc_refused}
use Rattle.mt_opcreds.specs.UpdateFabricLabel.{label_in, labelled, update_label_effect}
use Rattle.mt_opcreds.specs.UpdateNoc.{renewed, update_if, update_judged, update_noc_effect, update_of, update_refusal, update_under, update_with}
use Rattle.mt_opcreds.specs.declared.fault.CertificateFault.{CertificateFault}
use Rattle.mt_opcreds.specs.declared.fault.CertificateFault.TheVariants.{InvalidAdminSubject, InvalidNoc, InvalidNodeOpId, InvalidPublicKey, LabelConflict}

abbrev Fits : Effect → Type 0
Fits effect = list_all is_well_formed effect.steps ≡ true

are : (given : Credentials) → is_certificate given.root ≡ true → (length given.root_key == 65) ≡ true → nat_lt given.fabric_id (2 ^ 64) ≡ true → is_operational given.node_id ≡ true → is_certificate given.noc ≡ true → is_intermediate given.icac ≡ true → (length given.ipk == 16) ≡ true
    → are_credentials given ≡ true
are given root key id node noc icac ipk = λ i. root i && key i && id i && node i && noc i && icac i && ipk i

exact : (n wanted : ℕ) → (nat_le wanted n && nat_le n wanted) ≡ true → (n == wanted) ≡ true
exact n wanted e =
    let parts = and_parts (nat_le wanted n) (nat_le n wanted) e in
    let low : wanted ≤ n = leb-true wanted n parts.0 in
    let high : n ≤ wanted = leb-true n wanted parts.1 in
    eq-eqb n wanted (omega arith)

-- CSRRequest

csr_nonce : (fields : Value) → has_fields csr_request_fields (tree fields) ≡ true → (length (nonce_in fields) == 32) ≡ true
csr_nonce (values.Struct es) form =
    let both = formed csr_request_fields es form in
    let type = typed (needed 0 (forms.Octets 32 32)) (optional 1 forms.Bool ∷ []) es both.0 in
    let limit = within (needed 0 (forms.Octets 32 32)) (optional 1 forms.Bool ∷ []) es both.1 in
    exact (length (nonce_in (values.Struct es))) 32 (octets_fit 0 32 32 (field_in 0 es) type.0 limit.0)
csr_nonce value form = absurd (false≢true form)

csr_answered-fits : (command : Place) (fields : Value) (row : Option CsrRow) → (length (nonce_in fields) == 32) ≡ true → Fits (csr_answered command fields row)
csr_answered-fits command fields None nonce = refl
csr_answered-fits command fields (Some row) nonce = λ i. nonce i && true

csr_fits : (judged : Judged) (actor : Actor) (command : Place) (fields : Value) (armed : Result Armed Status) → (length (nonce_in fields) == 32) ≡ true → Fits (csr_under judged actor command fields armed)
csr_fits judged actor command fields (Err status) nonce = refl
csr_fits judged actor command fields (Ok armed) nonce =
    either Fits (is_update_in fields && is_pase actor.auth) (refused_at command InvalidCommand) _ (λ _. refl) (λ _.
    csr_answered-fits command fields (csr_verdict judged (nonce_in fields)) nonce)

-- AddNOC

-- no bytes are text
utf8_nil : is_utf8 [] ≡ true
unfolding is_utf8 chars
utf8_nil = refl

add_ipk : (fields : Value) → has_fields add_noc_fields (tree fields) ≡ true → (length (ipk_in fields) == 16) ≡ true
add_ipk (values.Struct es) form =
    let both = formed add_noc_fields es form in
    let rest = needed 3 any_number ∷ needed 4 (forms.Uint 0xffff) ∷ [] in
    let ipk = needed 2 (forms.Octets 16 16) in
    let type = typed ipk rest es (typed (optional 1 any_octets) (ipk ∷ rest) es (typed (needed 0 any_octets) (optional 1 any_octets ∷ ipk ∷ rest) es both.0).1).1 in
    let limit = within ipk rest es (within (optional 1 any_octets) (ipk ∷ rest) es (within (needed 0 any_octets) (optional 1 any_octets ∷ ipk ∷ rest) es both.1).1).1 in
    exact (length (ipk_in (values.Struct es))) 16 (octets_fit 2 16 16 (field_in 2 es) type.0 limit.0)
add_ipk value form = absurd (false≢true form)

-- the number of a vendor has 16 bits
short-fits : (n : ℕ) → nat_lt (short_of n) (2 ^ 16) ≡ true
short-fits n = elim (cases_Bool (nat_le n 0xffff)) [
  | inl fits ↦ rw fits (lt-ltb n (2 ^ 16) (omega (arith, leb-true n 0xffff fits)))
  | inr not_so ↦ rw not_so refl
]

first_entry-is : (index subject : ℕ) → may_be_subject Case subject ≡ true → is_entry (first_entry index subject) ≡ true
first_entry-is index subject may = λ i. (((may i && true) && true) && true) && true

module _ (judged : Judged) (keeps : KeepsRules judged) (command : Place) (fields : Value) where
  add_if-fits : (fabrics : List Fabric) (nonce root : List ℕ) (judged_root : RootRow) (chain : JoinRow) → root_verdict judged root ≡ Some judged_root → chain_verdict judged root (noc_in fields) (icac_in fields) ≡ Some chain
      → (length (ipk_in fields) == 16) ≡ true → (index : ℕ) (refusal : Option CertificateFault) → add_refusal fabrics fields nonce judged_root chain ≡ refusal
      → Fits (add_if index command fields (new_credentials fields root judged_root chain) refusal)
  add_if-fits fabrics nonce root judged_root chain is_root is_chain ipk index (Some fault) e = refl
  add_if-fits fabrics nonce root judged_root chain is_root is_chain ipk index None e =
      let root_rules = root_judged judged keeps root judged_root is_root in
      let chain_rules = chain_judged judged keeps root (noc_in fields) (icac_in fields) chain is_chain in
      let one = not_first (not (bytes_eq chain.nonce nonce)) InvalidPublicKey _ e in
      let two = not_first (not (is_operational chain.node_id)) InvalidNodeOpId _ one.1 in
      let three = not_first (not (may_be_subject Case (subject_in fields))) InvalidAdminSubject _ two.1 in
      let credentials = are (new_credentials fields root judged_root chain) root_rules.0 root_rules.1 chain_rules.3 (not_true (is_operational chain.node_id) two.0) chain_rules.1 chain_rules.2 ipk in
      let entry = first_entry-is index (subject_in fields) (not_true (may_be_subject Case (subject_in fields)) three.0) in
      let own = eq-eqb index index refl in
      let vendor = short-fits (number_of 4 fields) in
      λ i. (credentials i && utf8_nil i && vendor i) && (((entry i && true) && ((own i && true) && true)) && true)

  add_judged-fits : (fabrics : List Fabric) (nonce root : List ℕ) (judged_root : Option RootRow) (chain : Option JoinRow) → root_verdict judged root ≡ judged_root → chain_verdict judged root (noc_in fields) (icac_in fields) ≡ chain
      → (length (ipk_in fields) == 16) ≡ true → Fits (add_judged fabrics command fields nonce root judged_root chain)
  add_judged-fits fabrics nonce root None None is_root is_chain ipk = refl
  add_judged-fits fabrics nonce root None (Some chain) is_root is_chain ipk = refl
  add_judged-fits fabrics nonce root (Some judged_root) None is_root is_chain ipk = refl
  add_judged-fits fabrics nonce root (Some judged_root) (Some chain) is_root is_chain ipk =
      add_if-fits fabrics nonce root judged_root chain is_root is_chain ipk (least_unused fabrics) (add_refusal fabrics fields nonce judged_root chain) refl

  add_with-fits : (fabrics : List Fabric) (csr : Option (List ℕ × Bool)) (root : Option (List ℕ)) → (length (ipk_in fields) == 16) ≡ true → Fits (add_with judged fabrics command fields csr root)
  add_with-fits fabrics None root ipk = refl
  add_with-fits fabrics (Some csr) None ipk = refl
  add_with-fits fabrics (Some csr) (Some root) ipk = add_judged-fits fabrics csr.0 root _ _ refl refl ipk

  add_fits : (fabrics : List Fabric) (armed : Result Armed Status) → (length (ipk_in fields) == 16) ≡ true → Fits (add_under judged fabrics command fields armed)
  add_fits fabrics (Err status) ipk = refl
  add_fits fabrics (Ok armed) ipk =
      either Fits (is_for_update armed.csr) (refused_at command ConstraintError) _ (λ _. refl) (λ _.
      add_with-fits fabrics armed.csr armed.root ipk)

  -- UpdateNOC

  update_if-fits : (index : ℕ) (nonce : List ℕ) (own : Credentials) (chain : JoinRow) → are_credentials own ≡ true → chain_verdict judged own.root (noc_in fields) (icac_in fields) ≡ Some chain
      → (refusal : Option CertificateFault) → update_refusal nonce own chain ≡ refusal → Fits (update_if index command (renewed fields own chain) refusal)
  update_if-fits index nonce own chain rules is_chain (Some fault) e = refl
  update_if-fits index nonce own chain rules is_chain None e =
      let chain_rules = chain_judged judged keeps own.root (noc_in fields) (icac_in fields) chain is_chain in
      let one = not_first (not (chain.fabric_id == own.fabric_id)) InvalidNoc _ e in
      let two = not_first (not (bytes_eq chain.nonce nonce)) InvalidPublicKey _ one.1 in
      let three = not_first (not (is_operational chain.node_id)) InvalidNodeOpId _ two.1 in
      let node = not_true (is_operational chain.node_id) three.0 in
      let last = and_parts (is_certificate own.root && (length own.root_key == 65) && nat_lt own.fabric_id (2 ^ 64) && is_operational own.node_id && is_certificate own.noc && is_intermediate own.icac) (length own.ipk == 16) rules in
      let fifth = and_parts (is_certificate own.root && (length own.root_key == 65) && nat_lt own.fabric_id (2 ^ 64) && is_operational own.node_id && is_certificate own.noc) (is_intermediate own.icac) last.0 in
      let fourth = and_parts (is_certificate own.root && (length own.root_key == 65) && nat_lt own.fabric_id (2 ^ 64) && is_operational own.node_id) (is_certificate own.noc) fifth.0 in
      let third = and_parts (is_certificate own.root && (length own.root_key == 65) && nat_lt own.fabric_id (2 ^ 64)) (is_operational own.node_id) fourth.0 in
      let second = and_parts (is_certificate own.root && (length own.root_key == 65)) (nat_lt own.fabric_id (2 ^ 64)) third.0 in
      let first = and_parts (is_certificate own.root) (length own.root_key == 65) second.0 in
      let credentials = are (renewed fields own chain) first.0 first.1 second.1 node chain_rules.1 chain_rules.2 last.1 in
      λ i. credentials i && true

  update_judged-fits : (index : ℕ) (nonce : List ℕ) (own : Credentials) → are_credentials own ≡ true → (chain : Option JoinRow) → chain_verdict judged own.root (noc_in fields) (icac_in fields) ≡ chain
      → Fits (update_judged index command fields nonce own chain)
  update_judged-fits index nonce own rules None is_chain = refl
  update_judged-fits index nonce own rules (Some chain) is_chain = update_if-fits index nonce own chain rules is_chain (update_refusal nonce own chain) refl

  update_of-fits : (index : ℕ) (nonce : List ℕ) (own : Option Credentials) → are_credentials_if own ≡ true → Fits (update_of judged index command fields nonce own)
  update_of-fits index nonce None rules = refl
  update_of-fits index nonce (Some own) rules = update_judged-fits index nonce own rules _ refl

  update_with-fits : (known : Known) (index : ℕ) (csr : Option (List ℕ × Bool)) → are_credentials_if (credentials_at index known.fabrics) ≡ true → Fits (update_with judged known index command fields csr)
  update_with-fits known index None rules = refl
  update_with-fits known index (Some csr) rules =
      either Fits (not csr.1) (refused_at command ConstraintError) _ (λ _. refl) (λ _.
      update_of-fits index csr.0 (credentials_at index known.fabrics) rules)

  update_fits : (known : Known) (index : ℕ) (armed : Result Armed Status) → are_credentials_if (credentials_at index known.fabrics) ≡ true → Fits (update_under judged known index command fields armed)
  update_fits known index (Err status) rules = refl
  update_fits known index (Ok armed) rules =
      either Fits (is_some armed.root) (refused_at command ConstraintError) _ (λ _. refl) (λ _.
      update_with-fits known index armed.csr rules)

  -- AddTrustedRootCertificate

  root_answered-fits : (cert : List ℕ) (row : Option RootRow) → root_verdict judged cert ≡ row → Fits (root_answered command cert row)
  root_answered-fits cert None is = refl
  root_answered-fits cert (Some row) is = λ i. (root_judged judged keeps cert row is).0 i && true

  root_fits : (armed : Result Armed Status) → Fits (root_under judged command fields armed)
  root_fits (Err status) = refl
  root_fits (Ok armed) =
      either Fits (is_some armed.root) (refused_at command ConstraintError) _ (λ _. refl) (λ _.
      root_answered-fits (cert_in fields) _ refl)

-- UpdateFabricLabel

label_text : (fields : Value) → has_fields (needed 0 any_text ∷ []) (tree fields) ≡ true → is_utf8 (label_in fields) ≡ true
label_text (values.Struct es) form = text_is 0 (field_in 0 es) (typed (needed 0 any_text) [] es (formed (needed 0 any_text ∷ []) es form).0).0
label_text value form = absurd (false≢true form)

label_fits : (known : Known) (index : ℕ) (command : Place) (label : List ℕ) → is_utf8 label ≡ true → Fits (labelled known index command label)
label_fits known index command label utf8 =
    either Fits (not (nat_le (length label) 32)) (refused_at command ConstraintError) _ (λ _. refl) (λ short.
    either Fits (list_any (has_others_label index label) known.fabrics) (noc_refused command LabelConflict) (noc_done command index (Label index label ∷ [])) (λ _. refl) (λ _.
    let length_fits = not_true (nat_le (length label) 32) short in
    λ i. (length_fits i && utf8 i) && true))

-- RemoveFabric

removal_fits : (index : ℕ) (armed : Option Armed) → list_all is_well_formed (removal_steps index armed) ≡ true
removal_fits index armed = by_tests (is_context index armed) (was_added index armed)
  where
    by_tests : (context added : Bool) → list_all is_well_formed (if context then Expire ∷ (if added then [] else leaving index) else leaving index) ≡ true
    by_tests true true = refl
    by_tests true false = refl
    by_tests false added = refl

removed_fits : (known : Known) (command : Place) (index : ℕ) → Fits (removed known command index)
removed_fits known command index = either Fits (is_used index known.fabrics) (noc_done command index (removal_steps index known.armed)) _ (λ _. removal_fits index known.armed) (λ _. refl)

-- all of them

pub steps_fit : StepsAreWellFormed
steps_fit judged known actor command fields keeps own form =
    let armed = owned_by actor.fabric known.armed in
    either Fits (command.leaf == 4) (csr_request_effect judged known actor command fields) _ (λ is. csr_fits judged actor command fields armed (csr_nonce fields (of_form 4 is))) (λ _.
    either Fits (command.leaf == 6) (add_noc_effect judged known actor command fields) _ (λ is. add_fits judged keeps command fields known.fabrics armed (add_ipk fields (of_form 6 is))) (λ _.
    either Fits (command.leaf == 7) (update_noc_effect judged known actor command fields) _ (λ _. update_fits judged keeps command fields known actor.fabric armed own) (λ _.
    either Fits (command.leaf == 9) (update_label_effect known actor.fabric command fields) _ (λ is. label_fits known actor.fabric command (label_in fields) (label_text fields (of_form 9 is))) (λ _.
    either Fits (command.leaf == 10) (remove_effect known command fields) _ (λ _. removed_fits known command (index_in fields)) (λ _.
    either Fits (command.leaf == 11) (add_root_effect judged known actor command fields) (refused_at command UnsupportedCommand) (λ _. root_fits judged keeps command fields armed) (λ _. refl))))))
  where
    of_form : (number : ℕ) → (command.leaf == number) ≡ true → has_fields (command_fields number) (tree fields) ≡ true
    of_form number is = subst (λ (n : ℕ). has_fields (command_fields n) (tree fields) ≡ true) (eqb-true command.leaf number is) form
