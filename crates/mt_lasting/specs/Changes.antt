-- What changes of the durable map between two states: each key under which another value is, and none besides.
use Rattle.std.specs.Prelude.{ℕ, ◌==◌, List, [], ◌∷◌, Bool, true, false, Option, Some, None, filter, map, if◌then◌else◌}
use Rattle.std.specs.List.{flat_map}
use Rattle.mt_tlv.specs.contracts.value.Value as codes
use Rattle.mt_tlv.specs.declared.value.Value.{Value}
use Rattle.mt_tlv.specs.declared.value.Value.TheVariants as values
use Rattle.mt_durable.specs.Changes.{change_bytes}
use Rattle.mt_durable.specs.declared.durable.Entry.{Entry}
use Rattle.mt_model.specs.rows.Same.{are_same_codes}
use Rattle.mt_model.specs.rows.Sight.{stands_at}
use Rattle.mt_model.specs.declared.node.state.NodeState.{NodeState}
use Rattle.mt_model.specs.declared.rows.place.Place.{Place}
use Rattle.mt_model.specs.declared.rows.place.Row.{Row}
use Rattle.mt_grammar.specs.declared.keys.Key.{Key}
use Rattle.mt_grammar.specs.declared.keys.Key.TheVariants as keys
use Rattle.mt_lasting.specs.Keys.{all_keys, key_bytes}
use Rattle.mt_lasting.specs.Values.{value_at}

-- whether two values are the same, told by the codes that are theirs alone
abbrev pub is_same_value : Value → Value → Bool
is_same_value value other = are_same_codes (codes.the_row.coded.code value) (codes.the_row.coded.code other)

abbrev pub with_value : Key → Option Value → Entry
with_value key value = record { key = key_bytes key; value = value }

abbrev pub are_same : Option Value → Option Value → Bool
are_same None None = true
are_same (Some old) (Some new) = is_same_value old new
are_same old new = false

-- what a change says of a key under which the first value was and the second is: nothing where they are the same
abbrev pub differing : Key → Option Value → Option Value → List Entry
differing key old new = if are_same old new then [] else with_value key new ∷ []

abbrev pub differing_at : NodeState → ℕ → NodeState → ℕ → Key → List Entry
differing_at s ceiling t next key = differing key (value_at key s ceiling) (value_at key t next)

-- from the map of a state with a ceiling to that of another with another
abbrev pub change_between : NodeState → ℕ → NodeState → ℕ → List Entry
change_between s ceiling t next = flat_map (differing_at s ceiling t next) all_keys

-- The ceiling stays, whatever it is.

-- what is said of a key then
abbrev pub differing_under : NodeState → NodeState → Key → List Entry
differing_under s t key = differing_at s 0 t 0 key

-- the rows that stand at each of some places
abbrev pub rows_at_each : List Place → List Row → List (List Row)
rows_at_each places rows = map (λ (place : Place). filter (stands_at place) rows) places

-- what a change says of the ceiling of event numbers, where it is raised
abbrev pub raised : ℕ → ℕ → List Entry
raised ceiling next = if ceiling == next then [] else with_value keys.Ceiling (Some (values.Uint next)) ∷ []

-- the bytes that are committed for a change, none where it says nothing
abbrev pub bytes_to_commit : List Entry → List ℕ
bytes_to_commit [] = []
bytes_to_commit (entry ∷ entries) = change_bytes (entry ∷ entries)
