-- Which attributes differ behind steps, told by the steps and by what stands before them. The last of the steps that set the
-- rows of a fabric at a place, or the entries of a fabric, says what stands there behind all of them.
use Rattle.std.specs.Prelude.{ℕ, ◌==◌, ◌&&◌, nat_lt, not, Bool, true, false, List, Option, Some, None, filter, map, if◌then◌else◌}
use Rattle.std.specs.List.{list_any}
use Rattle.mt_tlv.specs.declared.value.Value.{Value}
use Rattle.mt_model.specs.rows.Order.{entry_rows, row_at}
use Rattle.mt_model.specs.rows.Seen.{own_entries}
use Rattle.mt_model.specs.rows.Same.{are_same_rows}
use Rattle.mt_model.specs.rows.Setting.{is_at}
use Rattle.mt_model.specs.rows.Sight.{is_acl, same_place}
use Rattle.mt_model.specs.tables.Entries.{entry_value}
use Rattle.mt_model.specs.declared.tables.access.AclEntry.{AclEntry}
use Rattle.mt_model.specs.declared.node.action.NodeStep.{NodeStep}
use Rattle.mt_model.specs.declared.node.action.NodeStep.TheVariants.{SetRow, SetEntries}
use Rattle.mt_model.specs.declared.rows.place.Place.{Place}
use Rattle.mt_model.specs.declared.rows.place.Row.{Row}
use Rattle.mt_model.specs.declared.node.state.NodeState.{NodeState}
use Rattle.mt_meta.specs.Stored.{is_stored}
use Rattle.mt_meta.specs.clusters.AccessControl as access_control
use Rattle.mt_meta.specs.clusters.NetworkCommissioning as network_commissioning
use Rattle.mt_meta.specs.clusters.OperationalCredentials as operational_credentials
use Rattle.mt_write.specs.Latest.{entries_set, latest, row_set}

-- whether rows stand already where these values are set, if any are
abbrev pub rows_stand : Place → ℕ → List Row → Option (List Value) → Bool
rows_stand place fabric rows None = true
rows_stand place fabric rows (Some values) = are_same_rows rows (map (row_at place fabric) values)

-- the access control list
abbrev pub list_of_entries : Place
list_of_entries = record { endpoint = 0; cluster = 0x1f; leaf = 0 }

-- entries are the same where the rows that they are written as are the same
abbrev pub are_same_entries : List AclEntry → List AclEntry → Bool
are_same_entries entries others = are_same_rows (entry_rows list_of_entries entry_value entries) (entry_rows list_of_entries entry_value others)

-- whether entries stand already where these are set, if any are
abbrev pub entries_stand : List AclEntry → Option (List AclEntry) → Bool
entries_stand entries None = true
entries_stand entries (Some new) = are_same_entries entries new

-- a step that sets rows at the place, of a fabric of which other rows stand there behind the steps
abbrev pub sets_other_rows : List Row → List NodeStep → Place → NodeStep → Bool
sets_other_rows rows steps place (SetRow at fabric values) = same_place at place && not (rows_stand place fabric (filter (is_at place fabric) rows) (latest (row_set place fabric) None steps))
sets_other_rows rows steps place step = false

-- a step that sets entries of a fabric of which others stand behind the steps
abbrev pub sets_other_entries : List AclEntry → List NodeStep → NodeStep → Bool
sets_other_entries entries steps (SetEntries fabric new) = not (entries_stand (own_entries fabric entries) (latest (entries_set fabric) None steps))
sets_other_entries entries steps step = false

abbrev pub has_other_entries : NodeState → List NodeStep → Bool
has_other_entries s steps = list_any (sets_other_entries s.entries steps) steps

-- What is computed of the entries is the access control list alone, of which it is known whether it differs.
abbrev pub differs_with : NodeState → List NodeStep → Bool → Place → Bool
differs_with s steps list_differs place =
    if is_stored place then list_any (sets_other_rows s.rows steps place) steps
    else is_acl place && list_differs

abbrev pub differs_by : NodeState → List NodeStep → Place → Bool
differs_by s steps = differs_with s steps (has_other_entries s steps)

-- a step that sets no rows at another place
abbrev pub sets_none_beside : Place → NodeStep → Bool
sets_none_beside place (SetRow at fabric values) = same_place at place
sets_none_beside place step = true

-- Whether an attribute that is not stored has rows of the tables of a state: of entries, networks, fabrics or roots. The rows
-- of all others that are not stored never change.
abbrev pub is_of_tables : Place → Bool
is_of_tables place =
    if place.cluster == access_control.cluster then place.leaf == 0  -- ACL
    else if place.cluster == network_commissioning.cluster then place.leaf == 1  -- Networks
    else place.cluster == operational_credentials.cluster && nat_lt place.leaf 5  -- NOCs to TrustedRootCertificates
