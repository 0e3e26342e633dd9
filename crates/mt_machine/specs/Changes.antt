-- What a change of values makes of data versions and change numbers. Both follow from comparing the state before an action
-- with the state behind its steps, and say nothing of a value but that it is another.
use Rattle.std.specs.Prelude.{ℕ, ◌+◌, ◌-◌, ◌%◌, ◌^◌, ◌==◌, ◌&&◌, min, not, Bool, List, [], ◌∷◌, filter, map, if◌then◌else◌}
use Rattle.std.specs.List.{list_any}
use Rattle.mt_meta.specs.Places.{all_places}
use Rattle.mt_model.specs.rows.Same.{are_same_rows}
use Rattle.mt_model.specs.declared.rows.place.Place.{Place}
use Rattle.mt_model.specs.declared.node.state.ChangeNumber.{ChangeNumber}
use Rattle.mt_model.specs.declared.node.state.NodeState.{NodeState}
use Rattle.mt_model.specs.declared.node.state.Version.{Version}
use Rattle.mt_machine.specs.State.{rows_of}
use Rattle.mt_subs.specs.Changes.{noted}

-- The places whose attributes have other rows in the second state.

abbrev pub differs : NodeState → NodeState → Place → Bool
differs s t place = not (are_same_rows (rows_of s place) (rows_of t place))

abbrev pub differing : NodeState → NodeState → List Place
differing s t = filter (differs s t) all_places

-- A cluster on an endpoint has its next version where one of its attributes is among these places.

abbrev pub is_within : Version → Place → Bool
is_within version place = place.endpoint == version.endpoint && place.cluster == version.cluster

abbrev pub next_version : Version → Version
next_version version = record version { version = (version.version + 1) % 2 ^ 32 }

abbrev pub version_after : List Place → Version → Version
version_after places version = if list_any (is_within version) places then next_version version else version

-- Each of these places stands in front of all others, with the number of this change, up to the last number of 64 bits.

abbrev pub next_change : ℕ → ℕ
next_change changed = min (changed + 1) (2 ^ 64 - 1)

abbrev pub noted_all : List Place → ℕ → List ChangeNumber → List ChangeNumber
noted_all [] number changes = changes
noted_all (place ∷ places) number changes = noted_all places number (noted place number changes)

abbrev pub count_after : List Place → ℕ → ℕ
count_after [] changed = changed
count_after (place ∷ places) changed = next_change changed

-- a state with the versions and change numbers that follow where these places have changed since an earlier one
abbrev pub changed_at : List Place → NodeState → NodeState → NodeState
changed_at places s t = record t {
  versions = map (version_after places) s.versions;
  changes = noted_all places (next_change s.changed) s.changes;
  changed = count_after places s.changed;
}

-- the second state with the versions and change numbers that follow from comparing it with the first
abbrev pub settled : NodeState → NodeState → NodeState
settled s t = changed_at (differing s t) s t
