-- A change and an image behind their first byte: entries one after the other, and the end of the array.
use Rattle.std.specs.Prelude.{◌≡◌, ℕ, List, [], ◌∷◌, ◌++◌, take, Bool, true, false, Option, Some, None, ⊤, if◌then◌else◌}
use Rattle.mt_tlv.specs.Narrow.{end_of_container, narrow, narrow_elements}
use Rattle.mt_tlv.specs.Parts.{Piece, scalar, enter, leave}
use Rattle.mt_tlv.specs.Parts as parts
use Rattle.mt_tlv.specs.declared.value.Tag.TheVariants.{Anonymous}
use Rattle.mt_durable.specs.Changes.{entry_tree, entry_trees}
use Rattle.mt_durable.specs.Keeping.{IsChange}
use Rattle.mt_durable.specs.Maps.{has_value}
use Rattle.mt_durable.specs.Reading.{said}
use Rattle.mt_durable.specs.Setting.{count_before}
use Rattle.mt_durable.specs.declared.durable.Entry.{Entry}
use Rattle.mt_durable.specs.declared.image.Front.{Front}

-- the control octet of an anonymous array
abbrev pub array_octet : ℕ
array_octet = 22

abbrev pub entry_bytes : Entry → List ℕ
entry_bytes entry = narrow Anonymous (entry_tree entry)

abbrev pub entries_bytes : List Entry → List ℕ
entries_bytes entries = narrow_elements (entry_trees entries)

-- entries up to the end of the array
abbrev pub bytes_to_end : List Entry → List ℕ
bytes_to_end entries = entries_bytes entries ++ end_of_container ∷ []

-- the bytes are entries of a change up to its end
abbrev pub AreEntries : List ℕ → Type 0
AreEntries bytes = IsChange (array_octet ∷ bytes)

abbrev pub entries_said : List ℕ → List Entry
entries_said bytes = said (array_octet ∷ bytes)

-- whether a part is the end of a container
abbrev pub is_leave : Piece → Bool
is_leave (scalar tag v) = false
is_leave (parts.text tag s) = false
is_leave (parts.octets tag s) = false
is_leave (enter tag type) = false
is_leave leave = true

-- The key of this entry, and whether it has a value.
abbrev pub Names : Entry → Option (List ℕ × Bool) → Type 0
Names entry None = ⊥
Names entry (Some named) = (named.0 ≡ entry.key) × (named.1 ≡ has_value entry.value)

-- What stands in front of entries.
abbrev pub IsFront : List Entry → Option Front → Type 0
IsFront [] None = ⊤
IsFront [] (Some front) = ⊥
IsFront (entry ∷ entries) None = ⊥
IsFront (entry ∷ entries) (Some front) = (front.key.now ≡ entry.key) × (front.has_value ≡ has_value entry.value) × (front.bytes.now ≡ entry_bytes entry)
    × AreEntries front.rest.now × (entries_said front.rest.now ≡ entries)

-- The key of the entry in front, none at the end.
abbrev pub IsKeyInFront : List Entry → Option (List ℕ) → Type 0
IsKeyInFront [] None = ⊤
IsKeyInFront [] (Some key) = ⊥
IsKeyInFront (entry ∷ entries) None = ⊥
IsKeyInFront (entry ∷ entries) (Some key) = key ≡ entry.key

-- Bytes are those of the entry in front, and the rest are the entries behind it.
abbrev pub IsSplit : List Entry → List ℕ → List ℕ → Type 0
IsSplit [] bytes rest = ⊥
IsSplit (entry ∷ entries) bytes rest = (bytes ≡ entry_bytes entry) × AreEntries rest × (entries_said rest ≡ entries)

-- The entry that stands in front, as its key and its bytes say.
pub record Stands (front : Front) : Type 0 where
  pub entry : Entry
  pub key : front.key.now ≡ entry.key
  pub bytes : front.bytes.now ≡ entry_bytes entry

-- the bytes of the entries before a key
abbrev pub lower_bytes : List ℕ → List Entry → List ℕ
lower_bytes key entries = entries_bytes (take (count_before key entries) entries)

abbrev pub bytes_if : Bool → List ℕ → List ℕ
bytes_if there bytes = if there then bytes else []
