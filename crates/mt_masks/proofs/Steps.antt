-- What a step makes of a masked state, where it is masked too: the masked state that it makes of the state.
use Rattle.std.proofs.Common.{◌≡◌, ℕ, not, is_none, Bool, true, false, List, [], ◌∷◌, Option, Some, None, refl, ap, ◌∙◌, filter, map, if◌then◌else◌}
use Rattle.std.specs.List.{list_all}
use Rattle.std.proofs.lemmas.Bool.{not-true}
use Rattle.mt_tlv.specs.declared.value.Value.{Value}
use Rattle.mt_tlv.specs.declared.value.Value.TheVariants as values
use Rattle.mt_fabrics.specs.Table.{label_refusal, removed}
use Rattle.mt_failsafe.specs.Notes.{may_note_csr, may_note_root}
use Rattle.mt_model.specs.rows.Setting.{with_rows}
use Rattle.mt_model.specs.declared.tables.access.AclEntry.{AclEntry}
use Rattle.mt_model.specs.rows.Sight.{same_place}
use Rattle.mt_model.specs.tables.KeySets.{key_sets}
use Rattle.mt_model.specs.tables.Leaving.{stays}
use Rattle.mt_meta.specs.Places.{all_places}
use Rattle.mt_meta.specs.Stored.{is_stored}
use Rattle.mt_meta.specs.Table.{attributes_of, clusters_of, endpoints, extensions_of, globals}
use Rattle.mt_apps.specs.Computed.{computed_rows}
use Rattle.mt_model.specs.rows.Same.{are_same_rows}
use Rattle.mt_model.specs.declared.node.action.NodeStep.{NodeStep}
use Rattle.mt_model.specs.declared.node.action.NodeStep.TheVariants.{SetRow, SetEntries, PutNetwork, RemoveNetwork, ConnectNetwork, MoveNetwork, Arm, Renew, Expire, Complete, AddRoot, Csr, AddFabric, UpdateFabric, RemoveFabric, Label, Emit}
use Rattle.mt_model.specs.declared.node.state.NodeState.{NodeState}
use Rattle.mt_model.specs.declared.rows.place.Place.{Place}
use Rattle.mt_model.specs.declared.rows.place.Row.{Row}
use Rattle.mt_model.specs.declared.tables.access.Actor.{Actor}
use Rattle.mt_model.specs.declared.tables.network.Armed.{Armed}
use Rattle.mt_machine.specs.Changes.{changed_at, differing, differs, settled}
use Rattle.mt_machine.specs.Effects.{after, after_all, completed, events_in, may_join, may_leave, may_update, plain_without, session_without}
use Rattle.mt_machine.specs.Rollback.{breadcrumb, rolled_back, undone}
use Rattle.mt_machine.specs.State.{is_used, parts, rows_of}
use Rattle.mt_masks.specs.Masking.{masked_node, masked_row, masked_set, masked_step}
use Rattle.mt_masks.proofs.Lists.{chosen, filter_agrees, filter_changed, same_list}
use Rattle.mt_masks.proofs.Rows.{rows_set, standing_elsewhere}

-- Steps that set no key sets stay.

abbrev pub spares : NodeStep → Bool
spares (SetRow place fabric given) = not (same_place place key_sets)
spares step = true

pub step_stays : (step : NodeStep) → spares step ≡ true → masked_step step ≡ step
step_stays (SetRow place fabric given) spared =
    ap (λ (b : Bool). SetRow place fabric (map (λ (value : Value). if b then masked_set value else value) given)) (not-true _ spared)
    ∙ ap (SetRow place fabric) (same_list given)
step_stays step spared = refl

-- Events are the same.
pub events_same : (steps : List NodeStep) → events_in (map masked_step steps) ≡ events_in steps
events_same [] = refl
events_same (Emit place priority fabric value ∷ steps) = ap (λ (events : List NodeStep). Emit place priority fabric value ∷ events) (events_same steps)
events_same (step ∷ steps) = events_same steps

-- Each step.

rows_kept : (p : ℕ → Bool) (rows : List Row) → filter (λ (row : Row). p row.fabric) (map masked_row rows) ≡ map masked_row (filter (λ (row : Row). p row.fabric) rows)
rows_kept p rows = filter_changed masked_row (λ (row : Row). p row.fabric) (λ row. refl) rows

rolled_masked : (armed : Option Armed) (s : NodeState) → rolled_back armed (masked_node s) ≡ masked_node (rolled_back armed s)
rolled_masked None s = refl
rolled_masked (Some armed) s =
    ap (λ (rows : List Row). record (undone armed s) { rows = with_rows breadcrumb 0 (values.Uint 0 ∷ []) rows }) (rows_kept (stays armed.added) s.rows)
    ∙ ap (λ (rows : List Row). record (undone armed s) { rows = rows }) (rows_set breadcrumb 0 (values.Uint 0 ∷ []) (filter (λ (row : Row). stays armed.added row.fabric) s.rows))

completed_masked : (armed : Option Armed) (s : NodeState) → completed armed (masked_node s) ≡ masked_node (completed armed s)
completed_masked None s = refl
completed_masked (Some armed) s = refl

-- a state that a fabric has left
abbrev without_fabric_in : ℕ → NodeState → NodeState
without_fabric_in index s = record s {
  rows = filter (λ (row : Row). stays (Some index) row.fabric) s.rows;
  entries = filter (λ (entry : AclEntry). stays (Some index) entry.fabric) s.entries;
  fabrics = removed index s.fabrics;
  roots = filter (is_used (removed index s.fabrics) s.armed) s.roots;
  sessions = map (session_without index) s.sessions;
  plain = plain_without index s.plain;
}

step_masked : (asking : Option Actor) (step : NodeStep) (s : NodeState) → after asking (masked_step step) (masked_node s) ≡ masked_node (after asking step s)
step_masked asking (SetRow place fabric given) s = ap (λ (rows : List Row). record s { rows = rows }) (rows_set place fabric given s.rows)
step_masked asking (SetEntries fabric entries) s = refl
step_masked asking (PutNetwork id secret) s = refl
step_masked asking (RemoveNetwork id) s = refl
step_masked asking (ConnectNetwork id) s = refl
step_masked asking (MoveNetwork id index) s = refl
step_masked asking (Arm owner seconds) s = refl
step_masked asking (Renew seconds) s = refl
step_masked asking Expire s = rolled_masked s.armed s
step_masked asking Complete s = completed_masked s.armed s
step_masked asking (AddRoot cert) s = chosen masked_node (may_note_root s.armed) _ s
step_masked asking (Csr nonce update) s = chosen masked_node (may_note_csr update s.armed) _ s
step_masked asking (AddFabric new) s = chosen masked_node (may_join new s) _ s
step_masked asking (UpdateFabric index given) s = chosen masked_node (may_update index given s) _ s
step_masked asking (RemoveFabric index) s =
    ap (λ (rows : List Row). if may_leave index s then record (without_fabric_in index s) { rows = rows } else masked_node s) (rows_kept (stays (Some index)) s.rows)
    ∙ chosen masked_node (may_leave index s) (without_fabric_in index s) s
step_masked asking (Label index label) s = chosen masked_node (is_none (label_refusal index label s.fabrics)) _ s
step_masked asking (Emit place priority fabric value) s = refl

pub steps_masked : (asking : Option Actor) (steps : List NodeStep) (s : NodeState) → after_all asking (map masked_step steps) (masked_node s) ≡ masked_node (after_all asking steps s)
steps_masked asking [] s = refl
steps_masked asking (step ∷ steps) s = ap (after_all asking (map masked_step steps)) (step_masked asking step s) ∙ steps_masked asking steps (after asking step s)

-- What a state has at other places.

pub rows_elsewhere : (s : NodeState) (place : Place) → same_place place key_sets ≡ false → rows_of (masked_node s) place ≡ rows_of s place
rows_elsewhere s place elsewhere = ap (λ (rows : List Row). if is_stored place then rows else computed_rows (parts s) place) (standing_elsewhere place elsewhere s.rows)

-- Versions and change numbers: the place of key sets is no attribute's.

no_attributes : list_all (λ (place : Place). not (same_place place key_sets)) all_places ≡ true
unfolding endpoints clusters_of attributes_of globals extensions_of
no_attributes = refl

differs_same : (s t : NodeState) (place : Place) → not (same_place place key_sets) ≡ true → differs (masked_node s) (masked_node t) place ≡ differs s t place
differs_same s t place other =
    let elsewhere = not-true _ other in
    let before = rows_elsewhere s place elsewhere in
    let now = rows_elsewhere t place elsewhere in
    λ i. not (are_same_rows (before i) (now i))

differing_same : (s t : NodeState) → differing (masked_node s) (masked_node t) ≡ differing s t
differing_same s t = filter_agrees (differs (masked_node s) (masked_node t)) (differs s t) (λ (place : Place). not (same_place place key_sets)) (differs_same s t) all_places no_attributes

pub settled_masked : (s t : NodeState) → settled (masked_node s) (masked_node t) ≡ masked_node (settled s t)
settled_masked s t = ap (λ (places : List Place). changed_at places (masked_node s) (masked_node t)) (differing_same s t)
