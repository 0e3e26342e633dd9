-- What is under each key for a state: a value, or none where nothing is to be kept.
use Rattle.std.specs.Prelude.{ℕ, ◌==◌, Bool, List, [], ◌∷◌, Option, Some, None, is_some, filter, option_map, if◌then◌else◌}
use Rattle.std.specs.List.{find}
use Rattle.mt_tlv.specs.Tree.{Tree, uint, bool, text, octets, null, structure, array, Elements, none, more}
use Rattle.mt_tlv.specs.View.{tree}
use Rattle.mt_tlv.specs.declared.value.Tag.TheVariants.{Context}
use Rattle.mt_tlv.specs.declared.value.Value.{Value}
use Rattle.mt_tlv.specs.declared.value.Value.TheVariants as values
use Rattle.mt_model.specs.Trees.{array_of, untagged}
use Rattle.mt_model.specs.rows.Setting.{is_at, is_entry_of}
use Rattle.mt_model.specs.rows.Sight.{same_place, stands_at}
use Rattle.mt_model.specs.tables.Entries.{entry_value}
use Rattle.mt_model.specs.declared.node.state.NodeState.{NodeState}
use Rattle.mt_model.specs.declared.rows.place.Place.{Place}
use Rattle.mt_model.specs.declared.rows.place.Row.{Row}
use Rattle.mt_model.specs.declared.tables.access.AclEntry.{AclEntry}
use Rattle.mt_model.specs.declared.tables.fabric.Credentials.{Credentials}
use Rattle.mt_model.specs.declared.tables.fabric.Fabric.{Fabric}
use Rattle.mt_model.specs.declared.tables.network.Armed.{Armed}
use Rattle.mt_model.specs.declared.tables.network.Network.{Network}
use Rattle.mt_grammar.specs.Values.{is_first_at}
use Rattle.mt_grammar.specs.declared.keys.Key.{Key}
use Rattle.mt_grammar.specs.declared.keys.Key.TheVariants as keys
use Rattle.mt_lasting.specs.Keys.{acl_place}

-- an array of so many elements, none where there is no element
abbrev pub array_if : {X : Type 0} → (X → Tree) → List X → Option Value
array_if of [] = None
array_if of (x ∷ xs) = Some (array_of of (x ∷ xs))

-- 03: the value of an attribute, unless it is as it first is.

abbrev pub unless_first : Place → Value → Option Value
unless_first place value = if is_first_at place value then None else Some value

abbrev pub single_in : Place → List Row → Option Value
single_in place [] = None
single_in place (row ∷ rows) = unless_first place row.value

abbrev pub single_value : Place → List Row → Option Value
single_value place rows = single_in place (filter (stands_at place) rows)

-- 04: a fabric's items, which are entries or rows.

abbrev pub entry_tree : AclEntry → Tree
entry_tree entry = tree (entry_value entry)

abbrev pub row_tree : Row → Tree
row_tree row = tree row.value

abbrev pub items_value : ℕ → Place → NodeState → Option Value
items_value fabric place s = if same_place place acl_place
    then array_if entry_tree (filter (is_entry_of fabric) s.entries)
    else array_if row_tree (filter (is_at place fabric) s.rows)

-- 05: a fabric.

-- 0 root, 1 root key, 2 fabric id, 3 node id, 4 NOC, 5 ICAC, 6 IPK, and the fields behind them
abbrev pub credential_fields : Credentials → Elements → Elements
credential_fields c behind =
    more (Context 0) (octets c.root) (
    more (Context 1) (octets c.root_key) (
    more (Context 2) (uint c.fabric_id) (
    more (Context 3) (uint c.node_id) (
    more (Context 4) (octets c.noc) (
    more (Context 5) (octets c.icac) (
    more (Context 6) (octets c.ipk) behind))))))

-- 7 vendor, 8 label
abbrev pub fabric_value : Fabric → Value
fabric_value fabric = values.Struct (credential_fields fabric.credentials (
    more (Context 7) (uint fabric.vendor) (
    more (Context 8) (text fabric.label) none)))

abbrev pub has_index : ℕ → Fabric → Bool
has_index index fabric = fabric.index == index

-- 07: networks: 0 id, 1 secret, 2 whether it is connected.
abbrev pub network_tree : Network → Tree
network_tree network = structure (
    more (Context 0) (octets network.id) (
    more (Context 1) (octets network.secret) (
    more (Context 2) (bool network.connected) none)))

-- 08: the fail-safe, without its times and without the root and the signing request that commissioning was given.

abbrev pub saved_tree : Option Credentials → Tree
saved_tree None = null
saved_tree (Some saved) = structure (credential_fields saved none)

-- 0 owner, 1 context, 2 whether it was added, 3 whether it was updated, 4 saved credentials, 5 saved networks
abbrev pub failsafe_value : Armed → Value
failsafe_value armed = values.Struct (
    more (Context 0) (uint armed.owner) (
    more (Context 1) (uint armed.context) (
    more (Context 2) (bool (is_some armed.added)) (
    more (Context 3) (bool (is_some armed.updated)) (
    more (Context 4) (saved_tree armed.saved_credentials) (
    more (Context 5) (array (untagged network_tree armed.saved_networks)) none))))))

-- What is under a key, where this ceiling of event numbers is set aside.
abbrev pub value_at : Key → NodeState → ℕ → Option Value
value_at keys.Boot s ceiling = Some (values.Uint s.boot)
value_at keys.Ceiling s ceiling = Some (values.Uint ceiling)
value_at (keys.Single place) s ceiling = single_value place s.rows
value_at (keys.Items fabric place) s ceiling = items_value fabric place s
value_at (keys.Fabric index) s ceiling = option_map fabric_value (find (has_index index) s.fabrics)
value_at keys.Roots s ceiling = array_if octets s.roots
value_at keys.Networks s ceiling = array_if network_tree s.networks
value_at keys.Failsafe s ceiling = option_map failsafe_value s.armed
