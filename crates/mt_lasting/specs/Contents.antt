-- What a node keeps of its state: as a map, key by key, and as a record.
use Rattle.std.specs.Prelude.{ℕ, ◌&&◌, not, List, [], ◌∷◌, Option, Some, None, filter, option_map}
use Rattle.std.specs.List.{flat_map}
use Rattle.mt_tlv.specs.declared.value.Value.{Value}
use Rattle.mt_durable.specs.declared.durable.Entry.{Entry}
use Rattle.mt_model.specs.rows.Setting.{is_at}
use Rattle.mt_model.specs.rows.Sight.{stands_at}
use Rattle.mt_model.specs.declared.node.state.NodeState.{NodeState}
use Rattle.mt_model.specs.declared.rows.place.Row.{Row}
use Rattle.mt_model.specs.declared.tables.network.Armed.{Armed}
use Rattle.mt_grammar.specs.Values.{is_first_at}
use Rattle.mt_grammar.specs.declared.kept.MapContents.{MapContents}
use Rattle.mt_grammar.specs.declared.keys.Key.{Key}
use Rattle.mt_grammar.specs.declared.keys.Key.TheVariants as keys
use Rattle.mt_lasting.specs.Keys.{all_keys, key_bytes}
use Rattle.mt_lasting.specs.Values.{value_at}

-- The map.

abbrev pub entry_if : Key → Option Value → List Entry
entry_if key None = []
entry_if key (Some value) = record { key = key_bytes key; value = Some value } ∷ []

abbrev pub entry_at : NodeState → ℕ → Key → List Entry
entry_at s ceiling key = entry_if key (value_at key s ceiling)

-- the durable map of a state, where this ceiling of event numbers is set aside
abbrev pub durable : NodeState → ℕ → List Entry
durable s ceiling = flat_map (entry_at s ceiling) all_keys

-- The record.

-- the rows that are under a key: that of an attribute, unless it is as it first is, and a fabric's items
abbrev pub rows_under : NodeState → Key → List Row
rows_under s (keys.Single place) = filter (λ (row : Row). stands_at place row && not (is_first_at place row.value)) s.rows
rows_under s (keys.Items fabric place) = filter (is_at place fabric) s.rows
rows_under s key = []

-- of the fail-safe neither its times nor the root and the signing request that commissioning was given
abbrev pub kept_failsafe : Armed → Armed
kept_failsafe armed = record armed { until = 0; limit = 0; root = None; csr = None }

-- what is kept of a state, with its rows in the order of keys
abbrev pub kept_of : NodeState → ℕ → MapContents
kept_of s ceiling = record {
  boot = Some s.boot;
  ceiling = Some ceiling;
  rows = flat_map (rows_under s) all_keys;
  entries = s.entries;
  fabrics = s.fabrics;
  roots = s.roots;
  networks = s.networks;
  failsafe = option_map kept_failsafe s.armed;
}

-- Of a state this lasts: rows, entries, fabrics, roots, networks, the fail-safe and the boot. The rest is as in no state.
abbrev pub what_lasts : NodeState → NodeState
what_lasts s = record s { versions = []; changes = []; changed = 0; sessions = []; plain = None; clock = 0 }
