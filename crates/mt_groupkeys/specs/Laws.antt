-- What holds of the steps of commands, and of what is told of sets.
use Rattle.std.specs.Prelude.{◌≡◌, ℕ, ◌==◌, ◌&&◌, nat_le, Bool, true, false, IsTrue, List, [], ◌∷◌, filter, length, Result, Ok, Err}
use Rattle.std.specs.List.{list_all}
use Rattle.mt_tlv.specs.declared.value.Value.{Value}
use Rattle.mt_meta.specs.Finding.{find_data_of}
use Rattle.mt_meta.specs.Forms.{has_form, is_of_kind}
use Rattle.mt_meta.specs.Stored.{is_stored}
use Rattle.mt_meta.specs.declared.meta.Kind.TheVariants as kinds
use Rattle.mt_meta.specs.declared.meta.Meta.{Meta}
use Rattle.mt_model.specs.tables.KeySets.{key_sets}
use Rattle.mt_model.specs.declared.limits.TheConstants.{KEY_MAP_ITEMS, KEY_SETS}
use Rattle.mt_model.specs.declared.messages.status.Status.{Status}
use Rattle.mt_model.specs.declared.node.action.NodeStep.{NodeStep}
use Rattle.mt_model.specs.declared.node.action.NodeStep.TheVariants.{SetRow}
use Rattle.mt_model.specs.declared.rows.place.Place.{Place}
use Rattle.mt_model.specs.declared.rows.place.Row.{Row}
use Rattle.mt_model.specs.declared.tables.access.Actor.{Actor}
use Rattle.mt_groupkeys.specs.Commands.{invoked, key_map}
use Rattle.mt_groupkeys.specs.Sets.{sorted, values_of}

-- values of the form of a place where each fabric has its own, which are this fabric's, and no more than it may have
abbrev pub is_sound_row : Bool → ℕ → ℕ → List Value → Result Meta Status → Bool
is_sound_row stored fabric whose values (Err status) = false
is_sound_row stored fabric whose values (Ok meta) = stored && (meta.scoped && (whose == fabric && (list_all (has_form meta fabric) values && nat_le (length values) meta.limit)))

-- a step sets what is the fabric's own
abbrev pub is_sound_step : ℕ → NodeStep → Bool
is_sound_step fabric (SetRow place whose values) = is_sound_row (is_stored place) fabric whose values (find_data_of place)
is_sound_step fabric step = false

-- The key sets and the items of GroupKeyMap of a fabric have their form, and there are no more than it may have.
pub record AreSound (rows_at : Place → List Row) (fabric : ℕ) : Type 0 where
  pub sets : list_all (is_of_kind kinds.KeySets 0 KEY_SETS fabric) (values_of (rows_at key_sets)) ≡ true
  pub few_sets : nat_le (length (values_of (rows_at key_sets))) KEY_SETS ≡ true
  pub items : list_all (is_of_kind kinds.GroupKeyMap 0 KEY_MAP_ITEMS fabric) (values_of (rows_at key_map)) ≡ true
  pub few_items : nat_le (length (values_of (rows_at key_map))) KEY_MAP_ITEMS ≡ true

abbrev pub StepsAreSound : Type 0
StepsAreSound = (rows_at : Place → List Row) (actor : Actor) (command : Place) (fields : Value) → AreSound rows_at actor.fabric
    → IsTrue (list_all (is_sound_step actor.fabric) (invoked rows_at actor command fields).steps)

-- Whoever has no fabric makes none.
abbrev pub NobodyMakesSteps : Type 0
NobodyMakesSteps = (rows_at : Place → List Row) (actor : Actor) (command : Place) (fields : Value) → (actor.fabric == 0) ≡ true → (invoked rows_at actor command fields).steps ≡ []

-- The ids that are told ascend, and each is told as often as a set has it.

abbrev pub ascend_from : ℕ → List ℕ → Bool
ascend_from least [] = true
ascend_from least (id ∷ ids) = nat_le least id && ascend_from id ids

abbrev pub SortedAscend : Type 0
SortedAscend = (ids : List ℕ) → ascend_from 0 (sorted ids) ≡ true

abbrev pub SortedAreThose : Type 0
SortedAreThose = (id : ℕ) (ids : List ℕ) → length (filter (λ (other : ℕ). other == id) (sorted ids)) ≡ length (filter (λ (other : ℕ). other == id) ids)
