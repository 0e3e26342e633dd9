-- What holds of the durable map of a state, of what is kept, and of changes.
use Rattle.std.specs.Prelude.{◌≡◌, ◌≢◌, ◌↔◌, ℕ, ◌^◌, ◌≤◌, ◌||◌, ◌++◌, Bool, true, false, List, [], Option, None, Some, Result, Ok, Err, filter, length, map}
use Rattle.std.specs.List.{list_all}
use Rattle.mt_tlv.specs.declared.value.Value.{Value}
use Rattle.mt_durable.specs.Changes.{change_bytes}
use Rattle.mt_durable.specs.Maps.{have_values, keys_ascend}
use Rattle.mt_durable.specs.Reading.{Says}
use Rattle.mt_durable.specs.Setting.{with_all}
use Rattle.mt_meta.specs.Finding.{find_data_of}
use Rattle.mt_meta.specs.Places.{all_places}
use Rattle.mt_meta.specs.declared.meta.Meta.{Meta}
use Rattle.mt_model.specs.rows.Sight.{same_place}
use Rattle.mt_model.specs.rows.Stored.{is_stored_place, stored_places}
use Rattle.mt_model.specs.declared.messages.status.Status.{Status}
use Rattle.mt_model.specs.declared.node.state.NodeState.{NodeState}
use Rattle.mt_model.specs.declared.rows.place.Place.{Place}
use Rattle.mt_grammar.specs.Decoding.{kept_in}
use Rattle.mt_grammar.specs.Facts.{facts_hold}
use Rattle.mt_grammar.specs.Keys.{key_in}
use Rattle.mt_grammar.specs.Values.{has_items, is_single}
use Rattle.mt_machine.specs.State.{IsValid}
use Rattle.mt_machine.specs.Changes.{changed_at}
use Rattle.mt_machine.specs.Effects.{after_all, is_setting_step}
use Rattle.mt_machine.specs.Environment.{Environment}
use Rattle.mt_machine.specs.Step.{after_action, at_time}
use Rattle.mt_machine.specs.Taking.{may_take_all}
use Rattle.mt_model.specs.declared.node.action.Action.{Action}
use Rattle.mt_model.specs.declared.node.action.NodeStep.{NodeStep}
use Rattle.mt_model.specs.declared.tables.access.Actor.{Actor}
use Rattle.mt_lasting.specs.Changes.{bytes_to_commit, change_between, is_same_value, raised}
use Rattle.mt_lasting.specs.Contents.{durable, kept_of, what_lasts}
use Rattle.mt_lasting.specs.Keys.{acl_place, all_keys, item_places, key_bytes, single_places}

-- each key is read as itself
abbrev pub KeysAreRead : Type 0
KeysAreRead = map (λ key. key_in (key_bytes key)) all_keys ≡ map Some all_keys

abbrev pub is_ok_and : (Meta → Bool) → Result Meta Status → Bool
is_ok_and test (Ok meta) = test meta
is_ok_and test (Err status) = false

-- The places of keys are those that the table keeps: one value for the node, or items of each fabric, which are entries at one place.

abbrev pub is_single_place : Place → Bool
is_single_place place = is_ok_and is_single (find_data_of place)

abbrev pub has_items_place : Place → Bool
has_items_place place = is_ok_and has_items (find_data_of place)

abbrev pub has_rows_or_entries : Place → Bool
has_rows_or_entries place = is_stored_place place || same_place place acl_place

pub record ArePlacesKept : Type 0 where
  pub singles : filter is_single_place all_places ≡ single_places
  pub items : filter has_items_place stored_places ≡ item_places
  pub acl : has_items_place acl_place ≡ true
  pub others : list_all has_rows_or_entries (filter has_items_place all_places) ≡ true

-- The keys of a map ascend, and each has a value; those of a change ascend.

abbrev pub MapsAreMaps : Type 0
MapsAreMaps = (s : NodeState) (ceiling : ℕ) → (keys_ascend (durable s ceiling) ≡ true) × (have_values (durable s ceiling) ≡ true)

abbrev pub ChangesAreChanges : Type 0
ChangesAreChanges = (s t : NodeState) (ceiling next : ℕ) → keys_ascend (change_between s ceiling t next) ≡ true

-- The change that is put on the map of the first state gives that of the second.
abbrev pub ChangesLeadOn : Type 0
ChangesLeadOn = (s t : NodeState) (ceiling next : ℕ) → with_all (change_between s ceiling t next) (durable s ceiling) ≡ durable t next

-- Values are told to be the same exactly where they are.
abbrev pub SameValuesAreEqual : Type 0
SameValuesAreEqual = (value other : Value) → (is_same_value value other ≡ true) ↔ (value ≡ other)

-- It is empty exactly where the maps are equal.
abbrev pub EmptyWhereEqual : Type 0
EmptyWhereEqual = (s t : NodeState) (ceiling next : ℕ) → (change_between s ceiling t next ≡ []) ↔ (durable s ceiling ≡ durable t next)

-- The map of a valid state is read back as what is kept of it, of which the facts of the grammar hold.

abbrev pub MapsAreReadBack : Type 0
MapsAreReadBack = (s : NodeState) (ceiling : ℕ) → IsValid s → ceiling ≤ 2 ^ 62 → kept_in (durable s ceiling) ≡ Some (kept_of s ceiling)

abbrev pub KeptFactsHold : Type 0
KeptFactsHold = (s : NodeState) (ceiling : ℕ) → IsValid s → facts_hold (kept_of s ceiling) ≡ true

-- The bytes of the map of a valid state are fewer than 2 ^ 16, and so are those of a change to one.

abbrev pub MapsAreShort : Type 0
MapsAreShort = (s : NodeState) (ceiling : ℕ) → IsValid s → length (change_bytes (durable s ceiling)) ≤ 65535

abbrev pub ChangesAreShort : Type 0
ChangesAreShort = (s t : NodeState) (ceiling next : ℕ) → IsValid t → length (change_bytes (change_between s ceiling t next)) ≤ 65535

-- What is to be kept fits into elements: the map of a valid state has an image, and a change to a valid state is one as bytes.

abbrev pub MapsHaveImages : Type 0
MapsHaveImages = (s : NodeState) (ceiling : ℕ) → IsValid s → ceiling ≤ 2 ^ 62 → Says (durable s ceiling) (change_bytes (durable s ceiling))

abbrev pub ChangesAreSaid : Type 0
ChangesAreSaid = (s t : NodeState) (ceiling next : ℕ) → IsValid t → next ≤ 2 ^ 62 → Says (change_between s ceiling t next) (change_bytes (change_between s ceiling t next))

-- What does not last: the time, versions and change numbers, sessions. Where two states have the same that lasts, the same changes to the one
-- as to the other, and nothing changes from the one to the other.

abbrev pub OnlyWhatLastsChanges : Type 0
OnlyWhatLastsChanges = (s t u : NodeState) (ceiling next : ℕ) → what_lasts t ≡ what_lasts u → change_between s ceiling t next ≡ change_between s ceiling u next

abbrev pub NothingElseChanges : Type 0
NothingElseChanges = (s t : NodeState) (ceiling : ℕ) → what_lasts s ≡ what_lasts t → change_between s ceiling t ceiling ≡ []

-- What steps that set values change does not hang on who asked, on the time, nor on the versions that follow. A state that takes them takes
-- them of anyone.

abbrev pub AnyonesStepsChangeTheSame : Type 0
AnyonesStepsChangeTheSame = (s : NodeState) (asking : Option Actor) (steps : List NodeStep) (places : List Place) (now ceiling : ℕ) → list_all is_setting_step steps ≡ true
    → change_between s ceiling (changed_at places s (after_all asking steps (at_time now s))) ceiling ≡ change_between s ceiling (after_all None steps s) ceiling

abbrev pub AnyonesStepsAreTaken : Type 0
AnyonesStepsAreTaken = (s : NodeState) (asking : Option Actor) (steps : List NodeStep) (now : ℕ) → list_all is_setting_step steps ≡ true
    → may_take_all asking steps (at_time now s) ≡ true → may_take_all None steps s ≡ true

-- A ceiling that is raised stands in front of what else changes in a boot, and no other change hangs on it.

abbrev pub RaisedCeilingsComeFirst : Type 0
RaisedCeilingsComeFirst = (s t : NodeState) (ceiling next : ℕ) → s.boot ≡ t.boot → change_between s ceiling t next ≡ raised ceiling next ++ change_between s ceiling t ceiling

abbrev pub SameUnderAnyCeiling : Type 0
SameUnderAnyCeiling = (s t : NodeState) (ceiling next : ℕ) → change_between s ceiling t ceiling ≡ change_between s next t next

-- No action begins another boot.
abbrev pub ActionsKeepTheBoot : Type 0
ActionsKeepTheBoot = (given : Environment) (s : NodeState) (action : Action) (now : ℕ) → (after_action given s action now).boot ≡ s.boot

-- What is to be committed: nothing exactly where the maps are equal, and else the bytes of the change that leads from the one to the other.

abbrev pub NothingToCommit : Type 0
NothingToCommit = (s t : NodeState) (ceiling next : ℕ) → (bytes_to_commit (change_between s ceiling t next) ≡ []) ↔ (durable s ceiling ≡ durable t next)

abbrev pub CommittedBytesSayIt : Type 0
CommittedBytesSayIt = (s t : NodeState) (ceiling next : ℕ) → IsValid t → next ≤ 2 ^ 62 → durable s ceiling ≢ durable t next
    → Says (change_between s ceiling t next) (bytes_to_commit (change_between s ceiling t next))
