-- What commands find: the rows of nobody, and its own, as a fabric observes them, are those that are stored.
use Rattle.std.proofs.Common.{◌≡◌, ℕ, ◌==◌, ◌||◌, inl, inr, Bool, true, false, List, [], ◌∷◌, refl, sym, ap, ◌∙◌, arith, filter, map, if◌then◌else◌}
use Rattle.std.proofs.lemmas.Bool.{cases_Bool, or_right}
use Rattle.mt_meta.specs.Stored.{is_stored}
use Rattle.mt_meta.specs.Table.{attributes_of, extensions_of, globals}
use Rattle.mt_meta.specs.clusters.Bench as bench
use Rattle.mt_meta.specs.clusters.OnOff as on_off
use Rattle.mt_model.specs.messages.Effects.{answered_with, refused_at}
use Rattle.mt_model.specs.rows.Order.{is_own}
use Rattle.mt_model.specs.rows.Seen.{Seen}
use Rattle.mt_model.specs.rows.Setting.{is_at}
use Rattle.mt_model.specs.rows.Shown.{first_value}
use Rattle.mt_model.specs.rows.Sight.{seen_by, stands_at}
use Rattle.mt_model.specs.declared.messages.status.Status.TheVariants.{Success, UnsupportedCommand}
use Rattle.mt_model.specs.declared.node.state.NodeState.{NodeState}
use Rattle.mt_model.specs.declared.rows.place.Place.{Place}
use Rattle.mt_model.specs.declared.rows.place.Row.{Row}
use Rattle.mt_model.specs.declared.tables.access.Actor.{Actor}
use Rattle.mt_admin.specs.Commands as admin
use Rattle.mt_admin.specs.Windows.{window_at}
use Rattle.mt_apps.specs.Bench.{number_at, rung}
use Rattle.mt_apps.specs.Commands.{invoked}
use Rattle.mt_apps.specs.OnOff.{is_on, on_behind, on_off_at, set_on}
use Rattle.mt_groupkeys.specs.Commands as group_keys
use Rattle.mt_model.specs.tables.KeySets.{key_sets}
use Rattle.mt_model.specs.tables.Known.{Known}
use Rattle.mt_tlv.specs.declared.value.Value.{Value}
use Rattle.mt_machine.specs.Commands.{nobodys_rows, own_rows}
use Rattle.mt_machine.specs.Laws.{StandsInOrder}
use Rattle.mt_machine.specs.Observation.{observation}
use Rattle.mt_machine.specs.State.{IsValid, rows_of}
use Rattle.mt_node.proofs.Filters.{filter_and}

differ : true ≡ false → ⊥
differ is = absurd (cc)

-- what is nobody's is seen as it stands
seen_row : (fabric : ℕ) (row : Row) (rows others : List Row) (own : Bool) → (row.fabric == fabric || row.fabric == 0) ≡ own → filter (is_own 0) rows ≡ filter (is_own 0) others
    → filter (is_own 0) (seen_by fabric row ∷ rows) ≡ filter (is_own 0) (row ∷ others)
seen_row fabric row rows others true own same = rw own (elim (cases_Bool (row.fabric == 0)) [
  | inl nobody ↦ rw nobody (ap (λ (rest : List Row). row ∷ rest) same)
  | inr other ↦ rw other same
])
seen_row fabric row rows others false own same = rw own (elim (cases_Bool (row.fabric == 0)) [
  | inl nobody ↦ absurd (differ (sym (or_right (row.fabric == fabric) (row.fabric == 0) nobody) ∙ own))
  | inr other ↦ rw other same
])

nobody_seen : (fabric : ℕ) (rows : List Row) → filter (is_own 0) (map (seen_by fabric) rows) ≡ filter (is_own 0) rows
nobody_seen fabric [] = refl
nobody_seen fabric (row ∷ rows) = seen_row fabric row (map (seen_by fabric) rows) rows (row.fabric == fabric || row.fabric == 0) refl (nobody_seen fabric rows)

stored_rows : (s : NodeState) (place : Place) → is_stored place ≡ true → rows_of s place ≡ filter (stands_at place) s.rows
stored_rows s place stored = rw stored refl

observed : StandsInOrder → (fabric : ℕ) (s : NodeState) → IsValid s → (place : Place) → is_stored place ≡ true → nobodys_rows (observation fabric s) place ≡ filter (is_at place 0) s.rows
observed order fabric s valid place stored =
    ap (λ (seen : Seen). filter (is_own 0) (seen.rows_at place)) (sym (order fabric s valid))
    ∙ nobody_seen fabric (rows_of s place)
    ∙ ap (filter (is_own 0)) (stored_rows s place stored)
    ∙ filter_and (is_own 0) (stands_at place) s.rows

on_off_stored : (endpoint : ℕ) → is_stored (on_off_at endpoint) ≡ true
unfolding is_stored attributes_of globals extensions_of
on_off_stored endpoint = refl

number_stored : (endpoint : ℕ) → is_stored (number_at endpoint) ≡ true
unfolding is_stored attributes_of globals extensions_of
number_stored endpoint = refl

-- a command comes to the same where it finds the same
invoked_same : (found rows_at : Place → List Row) (actor : Actor) (command : Place)
    → found (on_off_at command.endpoint) ≡ rows_at (on_off_at command.endpoint) → found (number_at command.endpoint) ≡ rows_at (number_at command.endpoint)
    → invoked found actor command ≡ invoked rows_at actor command
invoked_same found rows_at actor command is number = λ i.
    if command.cluster == on_off.cluster then set_on command (on_behind command.leaf (is_on (is i)))
    else if command.cluster == bench.cluster then
    (if command.leaf == 0 then answered_with command Success (rung command.endpoint (first_value (number i)) actor.fabric ∷ [])
    else refused_at command UnsupportedCommand)
    else refused_at command UnsupportedCommand

pub invoked_observed : StandsInOrder → (s : NodeState) → IsValid s → (actor : Actor) (command : Place)
    → invoked (λ place. filter (is_at place 0) s.rows) actor command ≡ invoked (nobodys_rows (observation actor.fabric s)) actor command
invoked_observed order s valid actor command =
    invoked_same (λ place. filter (is_at place 0) s.rows) (nobodys_rows (observation actor.fabric s)) actor command
    (sym (observed order actor.fabric s valid (on_off_at command.endpoint) (on_off_stored command.endpoint)))
    (sym (observed order actor.fabric s valid (number_at command.endpoint) (number_stored command.endpoint)))

-- Administrator Commissioning: whether a window is open.

window_stored : is_stored (window_at 0) ≡ true
unfolding is_stored attributes_of globals extensions_of
window_stored = refl

pub admin_observed : StandsInOrder → (s : NodeState) → IsValid s → (known : Known) (actor : Actor) (command : Place) (fields : Value) (now : ℕ)
    → admin.invoked (λ place. filter (is_at place 0) s.rows) known actor command fields now ≡ admin.invoked (nobodys_rows (observation actor.fabric s)) known actor command fields now
admin_observed order s valid known actor command fields now =
    ap (λ (rows : List Row). admin.invoked (λ place. rows) known actor command fields now) (sym (observed order actor.fabric s valid (window_at 0) window_stored))

-- Group Key Management: the key sets and the map of the asker's fabric.

own_seen : (fabric : ℕ) (rows : List Row) → filter (is_own fabric) (map (seen_by fabric) rows) ≡ filter (is_own fabric) rows
own_seen fabric [] = refl
own_seen fabric (row ∷ rows) = grind (arith, own_seen fabric rows)

own_observed : StandsInOrder → (fabric : ℕ) (s : NodeState) → IsValid s → (place : Place) → is_stored place ≡ true → own_rows (observation fabric s) place ≡ filter (is_at place fabric) s.rows
own_observed order fabric s valid place stored =
    ap (λ (seen : Seen). filter (is_own fabric) (seen.rows_at place)) (sym (order fabric s valid))
    ∙ own_seen fabric (rows_of s place)
    ∙ ap (filter (is_own fabric)) (stored_rows s place stored)
    ∙ filter_and (is_own fabric) (stands_at place) s.rows

sets_stored : is_stored key_sets ≡ true
unfolding is_stored attributes_of globals extensions_of
sets_stored = refl

map_stored : is_stored group_keys.key_map ≡ true
unfolding is_stored attributes_of globals extensions_of
map_stored = refl

pub keys_observed : StandsInOrder → (s : NodeState) → IsValid s → (actor : Actor) (command : Place) (fields : Value)
    → group_keys.invoked (λ place. filter (is_at place actor.fabric) s.rows) actor command fields ≡ group_keys.invoked (own_rows (observation actor.fabric s)) actor command fields
keys_observed order s valid actor command fields =
    let sets = sym (own_observed order actor.fabric s valid key_sets sets_stored) in
    let items = sym (own_observed order actor.fabric s valid group_keys.key_map map_stored) in
    λ i. group_keys.invoked (λ (place : Place). if place.leaf == 0 then items i else sets i) actor command fields
