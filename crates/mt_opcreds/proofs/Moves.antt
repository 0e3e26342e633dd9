-- The steps of each command are of one of the forms.
use Rattle.std.proofs.Common.{◌≡◌, ℕ, ◌==◌, ◌&&◌, nat_le, not, Bool, true, false, List, [], ◌∷◌, length, Option, Some, None, Result, Ok, Err, is_some, refl, arith, if◌then◌else◌}
use Rattle.std.proofs.lemmas.Bool.{and_from}
use Rattle.std.specs.List.{list_any}
use Rattle.mt_tlv.specs.declared.value.Value.{Value}
use Rattle.mt_fabrics.specs.Table.{credentials_at, has_others_label, is_used, least_unused}
use Rattle.mt_failsafe.specs.Calls.{is_context}
use Rattle.mt_failsafe.specs.Notes.{is_for_update, was_added}
use Rattle.mt_model.specs.messages.Effects.{refused_at}
use Rattle.mt_model.specs.tables.Known.{Known}
use Rattle.mt_model.specs.texts.Config.{is_pase}
use Rattle.mt_model.specs.declared.messages.status.Status.{Status}
use Rattle.mt_model.specs.declared.messages.status.Status.TheVariants.{ConstraintError, InvalidCommand, UnsupportedCommand}
use Rattle.mt_model.specs.declared.node.action.Effect.{Effect}
use Rattle.mt_model.specs.declared.node.action.NodeStep.TheVariants.{Expire, Label}
use Rattle.mt_model.specs.declared.rows.place.Place.{Place}
use Rattle.mt_model.specs.declared.tables.access.Actor.{Actor}
use Rattle.mt_model.specs.declared.tables.fabric.Credentials.{Credentials}
use Rattle.mt_model.specs.declared.tables.fabric.Fabric.{Fabric}
use Rattle.mt_model.specs.declared.tables.network.Armed.{Armed}
use Rattle.mt_model.specs.declared.texts.config.CsrRow.{CsrRow}
use Rattle.mt_model.specs.declared.texts.config.JoinRow.{JoinRow}
use Rattle.mt_model.specs.declared.texts.config.RootRow.{RootRow}
use Rattle.mt_opcreds.proofs.Choices.{either}
use Rattle.mt_opcreds.specs.AddNoc.{add_if, add_judged, add_noc_effect, add_refusal, add_under, add_with, first_entry, new_credentials, new_fabric, subject_in}
use Rattle.mt_opcreds.specs.AddTrustedRoot.{add_root_effect, cert_in, root_answered, root_under}
use Rattle.mt_opcreds.specs.CsrRequest.{csr_answered, csr_request_effect, csr_under, is_update_in, nonce_in}
use Rattle.mt_opcreds.specs.Fields.{icac_in, noc_in}
use Rattle.mt_opcreds.specs.Judged.{Judged, chain_verdict, csr_verdict, root_verdict}
use Rattle.mt_opcreds.specs.Moves.{IsMove, StepsAreMoves, expires, expires_and_leaves, joins, leaves, names, nothing, renews, requests, trusts}
use Rattle.mt_opcreds.specs.Owner.{owned_by}
use Rattle.mt_opcreds.specs.RemoveFabric.{index_in, leaving, removal_steps, remove_effect, removed}
use Rattle.mt_opcreds.specs.Responses.{noc_done, noc_refused}
use Rattle.mt_opcreds.specs.UpdateFabricLabel.{label_in, labelled, update_label_effect}
use Rattle.mt_opcreds.specs.UpdateNoc.{renewed, update_if, update_judged, update_noc_effect, update_of, update_refusal, update_under, update_with}
use Rattle.mt_opcreds.specs.declared.fault.CertificateFault.{CertificateFault}
use Rattle.mt_opcreds.specs.declared.fault.CertificateFault.TheVariants.{LabelConflict}

same_number : (n : ℕ) → (n == n) ≡ true
same_number n = grind arith

module _ (judged : Judged) (known : Known) (actor : Actor) (command : Place) (fields : Value) where
  abbrev Moves : Effect → Type 0
  Moves effect = IsMove known actor.fabric effect.steps

  csr_answered_moves : (row : Option CsrRow) → Moves (csr_answered command fields row)
  csr_answered_moves None = nothing refl
  csr_answered_moves (Some row) = requests (nonce_in fields) (is_update_in fields) refl

  csr_moves : (armed : Result Armed Status) → Moves (csr_under judged actor command fields armed)
  csr_moves (Err status) = nothing refl
  csr_moves (Ok armed) =
      either Moves (is_update_in fields && is_pase actor.auth) (refused_at command InvalidCommand) _ (λ _. nothing refl) (λ _.
      csr_answered_moves (csr_verdict judged (nonce_in fields)))

  add_if_moves : (index : ℕ) (given : Credentials) (refusal : Option CertificateFault) → Moves (add_if index command fields given refusal)
  add_if_moves index given (Some fault) = nothing refl
  add_if_moves index given None = joins (new_fabric index fields given) (first_entry index (subject_in fields) ∷ []) (and_from _ _ (same_number index) refl) refl

  add_judged_moves : (fabrics : List Fabric) (nonce root : List ℕ) (judged_root : Option RootRow) (chain : Option JoinRow) → Moves (add_judged fabrics command fields nonce root judged_root chain)
  add_judged_moves fabrics nonce root None None = nothing refl
  add_judged_moves fabrics nonce root None (Some chain) = nothing refl
  add_judged_moves fabrics nonce root (Some judged_root) None = nothing refl
  add_judged_moves fabrics nonce root (Some judged_root) (Some chain) =
      add_if_moves (least_unused fabrics) (new_credentials fields root judged_root chain) (add_refusal fabrics fields nonce judged_root chain)

  add_with_moves : (fabrics : List Fabric) (csr : Option (List ℕ × Bool)) (root : Option (List ℕ)) → Moves (add_with judged fabrics command fields csr root)
  add_with_moves fabrics None root = nothing refl
  add_with_moves fabrics (Some csr) None = nothing refl
  add_with_moves fabrics (Some csr) (Some root) = add_judged_moves fabrics csr.0 root (root_verdict judged root) (chain_verdict judged root (noc_in fields) (icac_in fields))

  add_moves : (armed : Result Armed Status) → Moves (add_under judged known.fabrics command fields armed)
  add_moves (Err status) = nothing refl
  add_moves (Ok armed) =
      either Moves (is_for_update armed.csr) (refused_at command ConstraintError) _ (λ _. nothing refl) (λ _.
      add_with_moves known.fabrics armed.csr armed.root)

  update_if_moves : (given : Credentials) (refusal : Option CertificateFault) → Moves (update_if actor.fabric command given refusal)
  update_if_moves given (Some fault) = nothing refl
  update_if_moves given None = renews given refl

  update_judged_moves : (nonce : List ℕ) (own : Credentials) (chain : Option JoinRow) → Moves (update_judged actor.fabric command fields nonce own chain)
  update_judged_moves nonce own None = nothing refl
  update_judged_moves nonce own (Some chain) = update_if_moves (renewed fields own chain) (update_refusal nonce own chain)

  update_of_moves : (nonce : List ℕ) (own : Option Credentials) → Moves (update_of judged actor.fabric command fields nonce own)
  update_of_moves nonce None = nothing refl
  update_of_moves nonce (Some own) = update_judged_moves nonce own (chain_verdict judged own.root (noc_in fields) (icac_in fields))

  update_with_moves : (csr : Option (List ℕ × Bool)) → Moves (update_with judged known actor.fabric command fields csr)
  update_with_moves None = nothing refl
  update_with_moves (Some csr) =
      either Moves (not csr.1) (refused_at command ConstraintError) _ (λ _. nothing refl) (λ _.
      update_of_moves csr.0 (credentials_at actor.fabric known.fabrics))

  update_moves : (armed : Result Armed Status) → Moves (update_under judged known actor.fabric command fields armed)
  update_moves (Err status) = nothing refl
  update_moves (Ok armed) =
      either Moves (is_some armed.root) (refused_at command ConstraintError) _ (λ _. nothing refl) (λ _.
      update_with_moves armed.csr)

  root_answered_moves : (cert : List ℕ) (row : Option RootRow) → Moves (root_answered command cert row)
  root_answered_moves cert None = nothing refl
  root_answered_moves cert (Some row) = trusts cert refl

  root_moves : (armed : Result Armed Status) → Moves (root_under judged command fields armed)
  root_moves (Err status) = nothing refl
  root_moves (Ok armed) =
      either Moves (is_some armed.root) (refused_at command ConstraintError) _ (λ _. nothing refl) (λ _.
      root_answered_moves (cert_in fields) (root_verdict judged (cert_in fields)))

  label_moves : (label : List ℕ) → Moves (labelled known actor.fabric command label)
  label_moves label =
      either Moves (not (nat_le (length label) 32)) (refused_at command ConstraintError) _ (λ _. nothing refl) (λ _.
      either Moves (list_any (has_others_label actor.fabric label) known.fabrics) (noc_refused command LabelConflict) (noc_done command actor.fabric (Label actor.fabric label ∷ [])) (λ _. nothing refl) (λ _. names label refl))

  removal_moves : (index : ℕ) (context added : Bool) → is_context index known.armed ≡ context → was_added index known.armed ≡ added
      → IsMove known actor.fabric (if context then Expire ∷ (if added then [] else leaving index) else leaving index)
  removal_moves index true true is was = expires index is was refl
  removal_moves index true false is was = expires_and_leaves index is was refl
  removal_moves index false added is was = leaves index is refl

  removed_moves : (index : ℕ) → Moves (removed known command index)
  removed_moves index =
      either Moves (is_used index known.fabrics) (noc_done command index (removal_steps index known.armed)) _
      (λ _. removal_moves index (is_context index known.armed) (was_added index known.armed) refl refl) (λ _. nothing refl)

pub steps_move : StepsAreMoves
steps_move judged known actor command fields =
    let armed = owned_by actor.fabric known.armed in
    let M : Effect → Type 0 = λ (effect : Effect). IsMove known actor.fabric effect.steps in
    either M (command.leaf == 4) (csr_request_effect judged known actor command fields) _ (λ _. csr_moves judged known actor command fields armed) (λ _.
    either M (command.leaf == 6) (add_noc_effect judged known actor command fields) _ (λ _. add_moves judged known actor command fields armed) (λ _.
    either M (command.leaf == 7) (update_noc_effect judged known actor command fields) _ (λ _. update_moves judged known actor command fields armed) (λ _.
    either M (command.leaf == 9) (update_label_effect known actor.fabric command fields) _ (λ _. label_moves judged known actor command fields (label_in fields)) (λ _.
    either M (command.leaf == 10) (remove_effect known command fields) _ (λ _. removed_moves judged known actor command fields (index_in fields)) (λ _.
    either M (command.leaf == 11) (add_root_effect judged known actor command fields) (refused_at command UnsupportedCommand) (λ _. root_moves judged known actor command fields armed) (λ _. nothing refl))))))
