-- No step moves a version, a change number or the count of changes.
use Rattle.std.proofs.Common.{◌≡◌, ◌≤◌, inl, inr, is_none, true, List, [], ◌∷◌, Option, None, Some, refl, ap, sym, ◌∙◌, arith}
use Rattle.std.proofs.lemmas.Bool.{and_parts, cases_Bool, leb-true}
use Rattle.std.specs.List.{list_all}
use Rattle.mt_fabrics.specs.Table.{label_refusal}
use Rattle.mt_failsafe.specs.Notes as notes
use Rattle.mt_model.specs.declared.node.action.NodeStep.{NodeStep}
use Rattle.mt_model.specs.declared.node.action.NodeStep.TheVariants.{SetRow, SetEntries, PutNetwork, RemoveNetwork, ConnectNetwork, MoveNetwork, Arm, Renew, Expire, Complete, AddRoot, Csr, AddFabric, UpdateFabric, RemoveFabric, Label, Emit}
use Rattle.mt_model.specs.declared.node.state.ChangeNumber.{ChangeNumber}
use Rattle.mt_model.specs.declared.node.state.NodeState.{NodeState}
use Rattle.mt_model.specs.declared.rows.place.Place.{Place}
use Rattle.mt_model.specs.declared.tables.access.Actor.{Actor}
use Rattle.mt_model.specs.declared.tables.network.Armed.{Armed}
use Rattle.mt_machine.specs.Changes.{changed_at, differing, settled}
use Rattle.mt_machine.specs.Effects.{after, after_all, completed, may_join, may_leave, may_update}
use Rattle.mt_machine.specs.Rollback.{rolled_back}
use Rattle.mt_machine.specs.State.{IsValid, is_change_up_to}
use Rattle.mt_machine.specs.Step.{after_steps}
use Rattle.mt_subs.specs.Changes.{newest_of}

-- the same counts
abbrev AsCounted : NodeState → NodeState → Type 0
AsCounted s t = t ≡ record t { versions = s.versions; changes = s.changes; changed = s.changed }

expired : (armed : Option Armed) (s : NodeState) → AsCounted s (rolled_back armed s)
expired None s = refl
expired (Some armed) s = refl

complete : (armed : Option Armed) (s : NodeState) → AsCounted s (completed armed s)
complete None s = refl
complete (Some armed) s = refl

step_counts : (asker : Option Actor) (step : NodeStep) (s : NodeState) → AsCounted s (after asker step s)
step_counts asker (SetRow place fabric values) s = refl
step_counts asker (SetEntries fabric entries) s = refl
step_counts asker (PutNetwork id secret) s = refl
step_counts asker (RemoveNetwork id) s = refl
step_counts asker (ConnectNetwork id) s = refl
step_counts asker (MoveNetwork id index) s = refl
step_counts asker (Arm owner seconds) s = refl
step_counts asker (Renew seconds) s = refl
step_counts asker Expire s = expired s.armed s
step_counts asker Complete s = complete s.armed s
step_counts asker (AddRoot cert) s = elim (cases_Bool (notes.may_note_root s.armed)) [ inl may ↦ rw may refl | inr may_not ↦ rw may_not refl ]
step_counts asker (Csr nonce update) s = elim (cases_Bool (notes.may_note_csr update s.armed)) [ inl may ↦ rw may refl | inr may_not ↦ rw may_not refl ]
step_counts asker (AddFabric fabric) s = elim (cases_Bool (may_join fabric s)) [ inl may ↦ rw may refl | inr may_not ↦ rw may_not refl ]
step_counts asker (UpdateFabric index credentials) s = elim (cases_Bool (may_update index credentials s)) [ inl may ↦ rw may refl | inr may_not ↦ rw may_not refl ]
step_counts asker (RemoveFabric index) s = elim (cases_Bool (may_leave index s)) [ inl may ↦ rw may refl | inr may_not ↦ rw may_not refl ]
step_counts asker (Label index label) s = elim (cases_Bool (is_none (label_refusal index label s.fabrics))) [ inl may ↦ rw may refl | inr may_not ↦ rw may_not refl ]
step_counts asker (Emit place priority fabric value) s = refl

pub steps_count : (asker : Option Actor) (steps : List NodeStep) (s : NodeState) → AsCounted s (after_all asker steps s)
steps_count asker [] s = refl
steps_count asker (step ∷ steps) s =
    let one = step_counts asker step s in
    let rest = steps_count asker steps (after asker step s) in
    rest ∙ (λ i. record (after_all asker steps (after asker step s)) { versions = (one i).versions; changes = (one i).changes; changed = (one i).changed })

-- the state behind steps, where versions and change numbers follow from comparing it
pub settled_is : (asker : Option Actor) (steps : List NodeStep) (s t u : NodeState) (places : List Place) → t ≡ after_all asker steps s → places ≡ differing s t
    → u ≡ changed_at places t t
    → u ≡ after_steps asker steps s
settled_is asker steps s t u places is differ made =
    let kept : AsCounted s t = is ∙ steps_count asker steps s ∙ ap (λ (x : NodeState). record x { versions = s.versions; changes = s.changes; changed = s.changed }) (sym is) in
    made
    ∙ ap (λ (x : NodeState). changed_at places x x) kept
    ∙ ap (λ (l : List Place). changed_at l s t) differ
    ∙ ap (settled s) is

-- no change is newer than the count of changes
pub newest_up_to : (s : NodeState) → IsValid s → newest_of s.changes ≤ s.changed
newest_up_to s valid = at_most s.changes valid.changes_counted
  where
    at_most : (changes : List ChangeNumber) → list_all (is_change_up_to s.changed) changes ≡ true → newest_of changes ≤ s.changed
    at_most [] all = omega arith
    at_most (change ∷ changes) all = leb-true change.number s.changed (and_parts _ _ all).0
