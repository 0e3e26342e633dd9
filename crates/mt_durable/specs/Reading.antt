-- What bytes say as a change: an element in the narrow encoding, with nothing behind it, whose structures are entries and whose keys ascend.
use Rattle.std.specs.Prelude.{◌≡◌, ℕ, ◌==◌, ◌&&◌, Bool, true, false, List, [], ◌∷◌, Option, Some, None, Result, Ok, Err, if◌then◌else◌}
use Rattle.mt_tlv.specs.Limits.{IsElement}
use Rattle.mt_tlv.specs.Narrow.{narrow}
use Rattle.mt_tlv.specs.Reading.{element_at}
use Rattle.mt_tlv.specs.Scalars.{octets_in}
use Rattle.mt_tlv.specs.Tree.{Tree, structure, array, Elements, none, more}
use Rattle.mt_tlv.specs.View.{value_of}
use Rattle.mt_tlv.specs.declared.fault.TlvFault.{TlvFault}
use Rattle.mt_tlv.specs.declared.value.Tag.{Tag}
use Rattle.mt_tlv.specs.declared.value.Tag.TheVariants.{Anonymous, Context}
use Rattle.mt_durable.specs.Changes.{change_bytes, entry_trees}
use Rattle.mt_durable.specs.Keys.{is_same}
use Rattle.mt_durable.specs.Maps.{have_values, keys_ascend}
use Rattle.mt_durable.specs.declared.durable.Entry.{Entry}

-- These bytes are the change with these entries, within the limits of an element.
pub record Says (entries : List Entry) (bytes : List ℕ) : Type 0 where
  pub ascend : keys_ascend entries ≡ true
  pub element : IsElement Anonymous (array (entry_trees entries)) bytes
  pub narrow : bytes ≡ change_bytes entries

-- whether a tag is the context tag of this number
abbrev pub is_field : ℕ → Tag → Bool
is_field number (Context n) = n == number
is_field number tag = false

-- the entry of this key, with what stands behind the key: nothing, or a value under 1
abbrev pub entry_with : Option (List ℕ) → Elements → Option Entry
entry_with None fields = None
entry_with (Some key) none = Some (record { key = key; value = None })
entry_with (Some key) (more tag tree none) = if is_field 1 tag then Some (record { key = key; value = Some (value_of tree) }) else None
entry_with (Some key) (more tag tree (more next other fields)) = None

-- the entry that the fields of a structure are, the key under 0 in front
abbrev pub entry_in : Elements → Option Entry
entry_in none = None
entry_in (more tag tree fields) = if is_field 0 tag then entry_with (octets_in tree) fields else None

-- the entry that an anonymous structure is
abbrev pub entry_of : Tag → Tree → Option Entry
entry_of Anonymous (structure fields) = entry_in fields
entry_of tag tree = None

abbrev pub in_front : Option Entry → Option (List Entry) → Option (List Entry)
in_front (Some entry) (Some entries) = Some (entry ∷ entries)
in_front entry entries = None

abbrev pub entries_in : Elements → Option (List Entry)
entries_in none = Some []
entries_in (more tag tree members) = in_front (entry_of tag tree) (entries_in members)

-- the entries that the members of an anonymous array are
abbrev pub entries_of : Tag → Tree → Option (List Entry)
entries_of Anonymous (array members) = entries_in members
entries_of tag tree = None

abbrev pub if_ascending : Option (List Entry) → Option (List Entry)
if_ascending None = None
if_ascending (Some entries) = if keys_ascend entries then Some entries else None

abbrev pub is_empty : List ℕ → Bool
is_empty [] = true
is_empty (byte ∷ bytes) = false

-- the change that an element says, if these bytes are all of it, in the narrow encoding
abbrev pub change_in : List ℕ → Result ((Tag × Tree) × List ℕ) TlvFault → Option (List Entry)
change_in bytes (Err fault) = None
change_in bytes (Ok read) = if is_empty read.1 && is_same (narrow read.0.0 read.0.1) bytes then if_ascending (entries_of read.0.0 read.0.1) else None

-- the change that bytes say
abbrev pub change_at : List ℕ → Option (List Entry)
change_at bytes = change_in bytes (element_at bytes)

-- whether bytes are a change
abbrev pub is_said : Option (List Entry) → Bool
is_said (Some entries) = true
is_said None = false

abbrev pub is_change : List ℕ → Bool
is_change bytes = is_said (change_at bytes)

-- whether they are an image, which is a change in which each key has a value
abbrev pub is_said_whole : Option (List Entry) → Bool
is_said_whole (Some entries) = have_values entries
is_said_whole None = false

abbrev pub is_image : List ℕ → Bool
is_image bytes = is_said_whole (change_at bytes)

-- the entries that they say, none where they are no change
abbrev pub entries_or_none : Option (List Entry) → List Entry
entries_or_none (Some entries) = entries
entries_or_none None = []

abbrev pub said : List ℕ → List Entry
said bytes = entries_or_none (change_at bytes)
