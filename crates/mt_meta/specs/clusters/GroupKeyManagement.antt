-- Group Key Management.
use Rattle.std.specs.Prelude.{ℕ, List, [], ◌∷◌, ◌==◌, if◌then◌else◌}
use Rattle.mt_model.specs.declared.tables.access.Privilege.TheVariants.{Administer, Manage}
use Rattle.mt_model.specs.declared.limits.TheConstants.{EPOCH_KEY_BYTES, KEY_MAP_ITEMS, KEY_SETS}
use Rattle.mt_meta.specs.declared.meta.Kind.TheVariants as kinds
use Rattle.mt_meta.specs.declared.rows.AttributeRow.{AttributeRow}
use Rattle.mt_meta.specs.declared.rows.CommandRow.{CommandRow}
use Rattle.mt_meta.specs.declared.rows.Field.{Field}
use Rattle.mt_meta.specs.declared.rows.Form.{Form}
use Rattle.mt_meta.specs.declared.rows.Form.TheVariants as forms
use Rattle.mt_meta.specs.declared.rows.Sensitive.TheVariants.{AllButFabric}
use Rattle.mt_meta.specs.Rows.{plain, written_by, limited, taking_items, scoped, kept, stored_items, hiding, needed, fabric_field, any_number, invoked_by, scoped_command}

abbrev pub cluster : ℕ
cluster = 0x3f

abbrev pub attributes : List AttributeRow
attributes =
    stored_items (scoped (kept (taking_items (written_by Manage KEY_MAP_ITEMS (plain 0 kinds.GroupKeyMap)))))  -- GroupKeyMap
    ∷ scoped (plain 1 kinds.GroupTable)  -- GroupTable
    ∷ plain 2 kinds.Uint  -- MaxGroupsPerFabric
    ∷ plain 3 kinds.Uint  -- MaxGroupKeysPerFabric
    ∷ []

-- what is no attribute: the key sets

abbrev pub sets : AttributeRow
sets = hiding AllButFabric (stored_items (scoped (kept (limited KEY_SETS (plain 0xfff10000 kinds.KeySets)))))

abbrev pub hidden : List AttributeRow
hidden = sets ∷ []

-- the fields of an item of the map
abbrev pub map_fields : List Field
map_fields =
    needed 1 (forms.Uint 0xffff)  -- GroupId
    ∷ needed 2 (forms.Uint 0xffff)  -- GroupKeySetID
    ∷ fabric_field
    ∷ []

-- a key, and the time from which it is used, or null

abbrev pub key : Form
key = forms.NullableOctets EPOCH_KEY_BYTES EPOCH_KEY_BYTES

abbrev pub start : Form
start = forms.NullableUint 0xffffffffffffffff

-- the fields of a key set
abbrev pub set_fields : List Field
set_fields =
    needed 0 (forms.Uint 0xffff)  -- GroupKeySetID
    ∷ needed 1 any_number  -- GroupKeySecurityPolicy
    ∷ needed 2 key  -- EpochKey0
    ∷ needed 3 start  -- EpochStartTime0
    ∷ needed 4 key  -- EpochKey1
    ∷ needed 5 start  -- EpochStartTime1
    ∷ needed 6 key  -- EpochKey2
    ∷ needed 7 start  -- EpochStartTime2
    ∷ fabric_field
    ∷ []

abbrev pub commands : List CommandRow
commands =
    scoped_command (invoked_by Administer 0)  -- KeySetWrite
    ∷ scoped_command (invoked_by Administer 1)  -- KeySetRead
    ∷ scoped_command (invoked_by Administer 3)  -- KeySetRemove
    ∷ scoped_command (invoked_by Administer 4)  -- KeySetReadAllIndices
    ∷ []

abbrev pub responses : List ℕ
responses =
    2  -- KeySetReadResponse
    ∷ 5  -- KeySetReadAllIndicesResponse
    ∷ []

-- the fields of commands

-- a key set
abbrev pub key_set_write_fields : List Field
key_set_write_fields = needed 0 forms.Structure ∷ []

-- the id of one
abbrev pub key_set_id_fields : List Field
key_set_id_fields = needed 0 (forms.Uint 0xffff) ∷ []

abbrev pub command_fields : ℕ → List Field
command_fields command =
    if command == 0 then key_set_write_fields
    else if command == 1 then key_set_id_fields
    else if command == 3 then key_set_id_fields
    else []
