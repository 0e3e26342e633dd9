-- What value may stand at a stored place, by the kind of its attribute and the limits of its table. A list that is scoped
-- by fabric has a row for each item, and the kind speaks of one item, which is of the fabric of its row.
use Rattle.std.specs.Prelude.{ℕ, ◌^◌, ◌&&◌, ◌+◌, nat_le, nat_lt, Bool, true, false, length, Option, Some, None}
use Rattle.std.specs.Str.{is_utf8}
use Rattle.mt_tlv.specs.Tree.{Tree, structure, Elements, none, more}
use Rattle.mt_tlv.specs.declared.value.Tag.TheVariants.{Anonymous}
use Rattle.mt_tlv.specs.declared.value.Value.{Value}
use Rattle.mt_tlv.specs.declared.value.Value.TheVariants as values
use Rattle.mt_model.specs.texts.Config.{has_up_to, is_entry}
use Rattle.mt_model.specs.tables.Entries.{entry_in}
use Rattle.mt_model.specs.tables.KeySets.{is_key_set}
use Rattle.mt_model.specs.declared.limits.TheConstants.{NETWORK_ID_BYTES}
use Rattle.mt_model.specs.declared.tables.access.AclEntry.{AclEntry}
use Rattle.mt_meta.specs.Fields.{is_kept_item}
use Rattle.mt_meta.specs.Table.{fields_of}
use Rattle.mt_meta.specs.declared.meta.Kind.{Kind}
use Rattle.mt_meta.specs.declared.meta.Kind.TheVariants as kinds
use Rattle.mt_meta.specs.declared.meta.Meta.{Meta}

abbrev pub is_entry_item : Option AclEntry → Bool
is_entry_item None = false
is_entry_item (Some entry) = is_entry entry

-- an item of the list of labels, which is nobody's
abbrev pub is_label_item : Tree → Bool
is_label_item item = is_kept_item (fields_of kinds.Labels) 0 item

-- how many elements there are, and whether each has no tag and passes a test
abbrev pub count_in : Elements → ℕ
count_in none = 0
count_in (more tag v es) = count_in es + 1

abbrev pub all_in : (Tree → Bool) → Elements → Bool
all_in test none = true
all_in test (more Anonymous v es) = test v && all_in test es
all_in test (more tag v es) = false

-- Whether a value has the form of a kind, of at least so many bytes where it is a text, within a limit, and is this fabric's where it is an
-- item. The kinds of computed attributes have no value that is stored.
abbrev pub is_of_kind : Kind → ℕ → ℕ → ℕ → Value → Bool
is_of_kind kinds.Bool least limit fabric (values.Bool b) = true
is_of_kind kinds.Uint least limit fabric (values.Uint n) = nat_lt n (2 ^ 64)
is_of_kind kinds.Uint32 least limit fabric (values.Uint n) = nat_lt n (2 ^ 32)
is_of_kind kinds.NullableUint least limit fabric values.Null = true
is_of_kind kinds.NullableUint least limit fabric (values.Uint n) = nat_lt n (2 ^ 64)
is_of_kind kinds.NullableOctets least limit fabric values.Null = true
is_of_kind kinds.NullableOctets least limit fabric (values.Octets s) = has_up_to NETWORK_ID_BYTES s
is_of_kind kinds.Text least limit fabric (values.Text s) = nat_le least (length s) && nat_le (length s) limit && is_utf8 s
is_of_kind kinds.Labels least limit fabric (values.Array es) = nat_le (count_in es) limit && all_in is_label_item es
is_of_kind kinds.Binding least limit fabric (values.Struct es) = is_kept_item (fields_of kinds.Binding) fabric (structure es)
is_of_kind kinds.Bench least limit fabric (values.Struct es) = is_kept_item (fields_of kinds.Bench) fabric (structure es)
is_of_kind kinds.Acl least limit fabric value = is_entry_item (entry_in value)
is_of_kind kinds.GroupKeyMap least limit fabric (values.Struct es) = is_kept_item (fields_of kinds.GroupKeyMap) fabric (structure es)
is_of_kind kinds.KeySets least limit fabric (values.Struct es) = is_key_set es && is_kept_item (fields_of kinds.KeySets) fabric (structure es)
is_of_kind kind least limit fabric value = false

-- the same of an attribute
abbrev pub has_form : Meta → ℕ → Value → Bool
has_form meta fabric value = is_of_kind meta.kind meta.least meta.limit fabric value
