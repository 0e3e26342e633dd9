-- The state that what is kept stands for.
use Rattle.std.specs.Prelude.{ℕ, List, [], ◌∷◌, Option, Some, None, filter, unwrap_or, if◌then◌else◌}
use Rattle.std.specs.List.{find, flat_map}
use Rattle.std.specs.Option.{option_map}
use Rattle.mt_durable.specs.declared.durable.Entry.{Entry}
use Rattle.mt_meta.specs.Stored.{first_rows}
use Rattle.mt_subs.specs.Changes.{unchanged}
use Rattle.mt_model.specs.rows.Sight.{stands_at}
use Rattle.mt_model.specs.rows.Stored.{stored_places}
use Rattle.mt_model.specs.declared.node.state.NodeState.{NodeState}
use Rattle.mt_model.specs.declared.rows.place.Place.{Place}
use Rattle.mt_model.specs.declared.rows.place.Row.{Row}
use Rattle.mt_model.specs.declared.tables.fabric.Fabric.{Fabric}
use Rattle.mt_model.specs.declared.tables.network.Armed.{Armed}
use Rattle.mt_grammar.specs.Decoding.{kept_in}
use Rattle.mt_grammar.specs.Facts.{facts_hold, is_idle}
use Rattle.mt_grammar.specs.declared.kept.MapContents.{MapContents}
use Rattle.mt_machine.specs.Opened.{first_version, versions_at}

-- The rows of a place: those that are kept, and where there are none, that with which it begins.

abbrev pub or_first : Place → List Row → List Row
or_first place [] = filter (stands_at place) first_rows
or_first place (row ∷ rows) = row ∷ rows

abbrev pub rows_at : List Row → Place → List Row
rows_at kept place = or_first place (filter (stands_at place) kept)

abbrev pub rows_with : List Row → List Row
rows_with kept = flat_map (rows_at kept) stored_places

-- The fail-safe was given the one root that no fabric uses, if there is one. Its times and its signing request were not kept, and an expiry needs none.

abbrev pub given_root : List Fabric → List (List ℕ) → Armed → Armed
given_root fabrics roots armed = record armed { root = find (is_idle fabrics) roots }

abbrev pub with_given_root : MapContents → Armed → Armed
with_given_root kept armed = given_root kept.fabrics kept.roots armed

-- The state. What is not kept is as it may be in any state: no version has moved, no session is there.
abbrev pub state_of : MapContents → NodeState
state_of kept = record {
  rows = rows_with kept.rows;
  entries = kept.entries;
  fabrics = kept.fabrics;
  roots = kept.roots;
  networks = kept.networks;
  armed = option_map (with_given_root kept) kept.failsafe;
  versions = versions_at (first_version (unwrap_or kept.boot 0));
  changes = unchanged;
  changed = 0;
  sessions = [];
  plain = Some 0;
  boot = unwrap_or kept.boot 0;
  clock = 0;
}

-- The state of a map, None where it is not in the grammar of states.

abbrev pub state_if : Option MapContents → Option NodeState
state_if None = None
state_if (Some kept) = if facts_hold kept then Some (state_of kept) else None

abbrev pub state_in : List Entry → Option NodeState
state_in map = state_if (kept_in map)
