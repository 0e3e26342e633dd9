-- What stands under each key, as a value.
use Rattle.std.specs.Prelude.{ℕ, ◌==◌, ◌&&◌, not, nat_le, bytes_eq, is_ok, is_some, Bool, true, false, List, [], ◌∷◌, length, Option, Some, None, option_and_then, option_map, if◌then◌else◌}
use Rattle.mt_tlv.specs.Scalars.{octets_in, unsigned_in}
use Rattle.mt_tlv.specs.Tree.{Tree, uint, bool, text, structure, array, Elements}
use Rattle.mt_tlv.specs.View.{tree}
use Rattle.mt_tlv.specs.declared.value.Value.{Value}
use Rattle.mt_tlv.specs.declared.value.Value.TheVariants as values
use Rattle.mt_model.specs.Optional.{is_that}
use Rattle.mt_model.specs.Trees.{field_in}
use Rattle.mt_model.specs.rows.Order.{row_at}
use Rattle.mt_model.specs.tables.Entries.{entry_with, mode_numbered, privilege_numbered}
use Rattle.mt_model.specs.declared.limits.TheConstants.{FABRICS}
use Rattle.mt_model.specs.declared.rows.place.Place.{Place}
use Rattle.mt_model.specs.declared.rows.place.Row.{Row}
use Rattle.mt_model.specs.declared.tables.access.AclEntry.{AclEntry}
use Rattle.mt_model.specs.declared.tables.access.Target.{Target}
use Rattle.mt_model.specs.declared.tables.fabric.Credentials.{Credentials}
use Rattle.mt_model.specs.declared.tables.fabric.Fabric.{Fabric}
use Rattle.mt_model.specs.declared.tables.network.Armed.{Armed}
use Rattle.mt_model.specs.declared.tables.network.Network.{Network}
use Rattle.mt_meta.specs.Finding.{find_of}
use Rattle.mt_meta.specs.Forms.{count_in, has_form}
use Rattle.mt_meta.specs.Stored.{row_in}
use Rattle.mt_meta.specs.Table.{attributes_of}
use Rattle.mt_meta.specs.Targets.{target_in}
use Rattle.mt_meta.specs.declared.meta.Kind.{Kind}
use Rattle.mt_meta.specs.declared.meta.Kind.TheVariants as kinds
use Rattle.mt_meta.specs.declared.meta.Meta.{Meta}
use Rattle.mt_meta.specs.declared.rows.AttributeRow.{AttributeRow}
use Rattle.mt_meta.specs.declared.rows.FirstValue.{FirstValue}
use Rattle.mt_meta.specs.declared.rows.FirstValue.TheVariants as first
use Rattle.mt_meta.specs.declared.rows.Origin.{Origin}
use Rattle.mt_meta.specs.declared.rows.Origin.TheVariants.{Computed, Stored, StoredItems}
use Rattle.mt_grammar.specs.Fields.{all_in, fields_in, is_null, number_at, octets_at, some_in, text_at, truth_at}

-- 01 and 02: numbers with room above them, for boots and for events to come.

abbrev pub greatest_boot : ℕ
greatest_boot = 0x80000000

abbrev pub greatest_ceiling : ℕ
greatest_ceiling = 0x4000000000000000

-- 03 and 04: the attributes that are kept, and the group key sets.

-- the row of the table for an attribute that is there; none that every cluster has is kept, nor one above those
abbrev pub table_row : Place → Option AttributeRow
table_row place = if is_ok (find_of place) then row_in (attributes_of place.cluster) place.leaf else None

-- the access control list, whose items are entries
abbrev pub is_acl : Kind → Bool
is_acl kinds.Acl = true
is_acl kind = false

-- kept, one value for the node
abbrev pub is_single : Meta → Bool
is_single meta = meta.kept && (not meta.scoped && not (is_acl meta.kind))

-- kept, with items of each fabric, which are rows or entries; key sets are such items, too
abbrev pub has_items : Meta → Bool
has_items meta = meta.kept && meta.scoped

-- whether a value is the one with which an attribute begins on a new node
abbrev pub is_value : FirstValue → Tree → Bool
is_value (first.Bool b) (bool c) = if b then c else not c
is_value (first.Uint n) (uint m) = m == n
is_value first.Null tree = is_null tree
is_value first.EmptyText (text s) = length s == 0
is_value (first.Country a b) (text s) = bytes_eq s (a ∷ b ∷ [])
is_value first.EmptyArray (array es) = count_in es == 0
is_value value tree = false

abbrev pub is_first : Origin → Tree → Bool
is_first Computed tree = false
is_first (Stored value) tree = is_value value tree
is_first StoredItems tree = false

-- whether the attribute of a place begins with this value
abbrev pub is_first_in : Option AttributeRow → Value → Bool
is_first_in None value = false
is_first_in (Some row) value = is_first row.origin (tree value)

abbrev pub is_first_at : Place → Value → Bool
is_first_at place value = is_first_in (table_row place) value

-- 03: a value of the attribute's form, and not the first, which has no key
abbrev pub may_stand_in : Option AttributeRow → Value → Bool
may_stand_in None value = false
may_stand_in (Some row) value = is_single row.meta && (has_form row.meta 0 value && not (is_first row.origin (tree value)))

abbrev pub may_stand : Place → Value → Bool
may_stand place value = may_stand_in (table_row place) value

-- 04: an item of a fabric as a row, if it has the form of the list, which says whose it is
abbrev pub item_in : Place → ℕ → Meta → Tree → Option Row
item_in place fabric meta (structure es) = if has_form meta fabric (values.Struct es) then Some (row_at place fabric (values.Struct es)) else None
item_in place fabric meta tree = None

-- as many as a fabric may have
abbrev pub if_few : ℕ → Option (List Row) → Option (List Row)
if_few most None = None
if_few most (Some rows) = if nat_le (length rows) most then Some rows else None

abbrev pub items_in : Place → ℕ → Meta → Tree → Option (List Row)
items_in place fabric meta tree = if_few meta.limit (some_in (item_in place fabric meta) tree)

-- 04 of the access control list: entries as they are written, each with all its fields and with null for no subjects and for no
-- targets.

abbrev pub subjects_in : Tree → Option (List ℕ)
subjects_in tree = if is_null tree then Some [] else some_in unsigned_in tree

-- 0 cluster, 1 endpoint, 2 device type
abbrev pub whole_target_in : Tree → Option Target
whole_target_in tree = if is_some (fields_in (0 ∷ 1 ∷ 2 ∷ []) tree) then target_in tree else None

abbrev pub targets_in : Tree → Option (List Target)
targets_in tree = if is_null tree then Some [] else some_in whole_target_in tree

-- whether field 254 of an entry is its fabric
abbrev pub is_of : ℕ → Elements → Bool
is_of fabric es = is_that fabric (option_and_then unsigned_in (field_in 254 es))

abbrev pub entry_of : ℕ → Elements → Option AclEntry
entry_of fabric es = if is_of fabric es
    then entry_with
    (option_and_then privilege_numbered (option_and_then unsigned_in (field_in 1 es)))
    (option_and_then mode_numbered (option_and_then unsigned_in (field_in 2 es)))
    (option_and_then subjects_in (field_in 3 es))
    (option_and_then targets_in (field_in 4 es))
    (Some fabric)
    else None

-- 1 privilege, 2 mode, 3 subjects, 4 targets, 254 fabric index
abbrev pub entry_in : ℕ → Tree → Option AclEntry
entry_in fabric tree = option_and_then (entry_of fabric) (fields_in (1 ∷ 2 ∷ 3 ∷ 4 ∷ 254 ∷ []) tree)

abbrev pub entries_in : ℕ → Tree → Option (List AclEntry)
entries_in fabric tree = some_in (entry_in fabric) tree

-- 05: a fabric.

abbrev pub credentials_with : Option (List ℕ) → Option (List ℕ) → Option ℕ → Option ℕ → Option (List ℕ) → Option (List ℕ) → Option (List ℕ) → Option Credentials
credentials_with (Some root) (Some root_key) (Some fabric_id) (Some node_id) (Some noc) (Some icac) (Some ipk) = Some (record { root = root; root_key = root_key; fabric_id = fabric_id; node_id = node_id; noc = noc; icac = icac; ipk = ipk })
credentials_with _ _ _ _ _ _ _ = None

-- 0 root, 1 root key, 2 fabric id, 3 node id, 4 NOC, 5 ICAC, 6 IPK
abbrev pub credentials_of : Elements → Option Credentials
credentials_of es = credentials_with (octets_at 0 es) (octets_at 1 es) (option_and_then unsigned_in (field_in 2 es)) (option_and_then unsigned_in (field_in 3 es)) (octets_at 4 es) (octets_at 5 es) (octets_at 6 es)

abbrev pub fabric_with : ℕ → Option Credentials → Option ℕ → Option (List ℕ) → Option Fabric
fabric_with index (Some credentials) (Some vendor) (Some label) = Some (record { index = index; credentials = credentials; vendor = vendor; label = label })
fabric_with index _ _ _ = None

-- 7 vendor, 8 label
abbrev pub fabric_of : ℕ → Elements → Option Fabric
fabric_of index es = fabric_with index (credentials_of es) (number_at 0xffff 7 es) (text_at 8 es)

abbrev pub fabric_in : ℕ → Tree → Option Fabric
fabric_in index tree = option_and_then (fabric_of index) (fields_in (0 ∷ 1 ∷ 2 ∷ 3 ∷ 4 ∷ 5 ∷ 6 ∷ 7 ∷ 8 ∷ []) tree)

-- 06: root certificates.

abbrev pub roots_in : Tree → Option (List (List ℕ))
roots_in tree = some_in octets_in tree

-- 07: networks.

abbrev pub network_with : Option (List ℕ) → Option (List ℕ) → Option Bool → Option Network
network_with (Some id) (Some secret) (Some connected) = Some (record { id = id; secret = secret; connected = connected })
network_with _ _ _ = None

-- 0 id, 1 secret, 2 whether it is connected
abbrev pub network_of : Elements → Option Network
network_of es = network_with (octets_at 0 es) (octets_at 1 es) (truth_at 2 es)

abbrev pub network_in : Tree → Option Network
network_in tree = option_and_then network_of (fields_in (0 ∷ 1 ∷ 2 ∷ []) tree)

abbrev pub networks_in : Tree → Option (List Network)
networks_in tree = some_in network_in tree

-- 08: the fail-safe. What a recovery does not need of it is not kept: when it expires, and the root and the signing request of
-- commissioning.

-- null, or credentials with the fields that they have under 05
abbrev pub saved_in : Tree → Option (Option Credentials)
saved_in tree = if is_null tree then Some None else option_map Some (option_and_then credentials_of (fields_in (0 ∷ 1 ∷ 2 ∷ 3 ∷ 4 ∷ 5 ∷ 6 ∷ []) tree))

-- the fabric for which commissioning goes on, where it was added or updated
abbrev pub if_so : Bool → ℕ → Option ℕ
if_so true fabric = Some fabric
if_so false fabric = None

abbrev pub armed_with : Option ℕ → Option ℕ → Option Bool → Option Bool → Option (Option Credentials) → Option (List Network) → Option Armed
armed_with (Some owner) (Some context) (Some added) (Some updated) (Some credentials) (Some networks) = Some (record { owner = owner; context = context; until = 0; limit = 0; added = if_so added context; updated = if_so updated context; root = None; csr = None; saved_credentials = credentials; saved_networks = networks })
armed_with _ _ _ _ _ _ = None

-- 0 owner, 1 context, each the index of a fabric or 0, 2 whether it was added, 3 whether it was updated, 4 saved credentials,
-- 5 saved networks, if any
abbrev pub armed_of : Elements → Option Armed
armed_of es = armed_with (number_at FABRICS 0 es) (number_at FABRICS 1 es) (truth_at 2 es) (truth_at 3 es) (option_and_then saved_in (field_in 4 es)) (option_and_then (all_in network_in) (field_in 5 es))

abbrev pub armed_in : Tree → Option Armed
armed_in tree = option_and_then armed_of (fields_in (0 ∷ 1 ∷ 2 ∷ 3 ∷ 4 ∷ 5 ∷ []) tree)
