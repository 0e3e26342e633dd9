-- How many bytes a tree takes in the narrow encoding, part by part.
use Rattle.std.proofs.Common.{◌≡◌, ℕ, zero, suc, ◌+◌, ◌/◌, ◌^◌, List, [], ◌∷◌, ◌++◌, length, refl, ap, arith}
use Rattle.std.specs.Prelude.{Option, Some, None}
use Rattle.std.specs.Int.{w64, cast_unsigned}
use Rattle.std.proofs.lemmas.List.{length-append}
use Rattle.mt_tlv.specs.Narrow.{length_and_value, little_endian, narrow, narrow_elements, narrow_string, narrow_unsigned, signed_width_of, tag_field, width_of}
use Rattle.mt_tlv.specs.Tree.{Tree, int, uint, bool, text, octets, null, bits32, bits64, structure, array, list, Elements, none, more}
use Rattle.mt_tlv.specs.View.{tree}
use Rattle.mt_tlv.specs.declared.value.Tag.{Tag}
use Rattle.mt_tlv.specs.declared.value.Value.{Value}
use Rattle.mt_durable.specs.Changes.{change_bytes, entry_trees}
use Rattle.mt_durable.specs.declared.durable.Entry.{Entry}

-- a number in its least width
unfoldable pub number_size : ℕ → ℕ
number_size n = 2 ^ width_of n

-- so many bytes behind their length
abbrev pub string_size : ℕ → ℕ
string_size n = number_size n + n

-- a control octet and the tag behind it
abbrev pub tag_size : Tag → ℕ
tag_size tag = suc (length (tag_field tag))

abbrev mutual
  -- what stands behind the tag
  pub size : Tree → ℕ
  size (int z) = 2 ^ signed_width_of z
  size (uint n) = number_size n
  size (bool b) = 0
  size (text s) = string_size (length s)
  size (octets s) = string_size (length s)
  size null = 0
  size (bits32 n) = 4
  size (bits64 n) = 8
  size (structure es) = sizes es + 1
  size (array es) = sizes es + 1
  size (list es) = sizes es + 1

  -- elements, one after the other
  pub sizes : Elements → ℕ
  sizes none = 0
  sizes (more tag v es) = tag_size tag + size v + sizes es

length_little : (k n : ℕ) → length (little_endian k n) ≡ k
length_little zero n = refl
length_little (suc k) n = ap suc (length_little k (n / 256))

number_bytes : (n : ℕ) → length (narrow_unsigned n) ≡ number_size n
unfolding number_size
number_bytes n = length_little (2 ^ width_of n) n

string_bytes : (s : List ℕ) → length (narrow_string s) ≡ string_size (length s)
string_bytes s = omega (arith, length-append (narrow_unsigned (length s)) s, number_bytes (length s))

mutual
  value_bytes : (v : Tree) → length (length_and_value v) ≡ size v
  value_bytes (int z) = length_little (2 ^ signed_width_of z) (cast_unsigned w64 z)
  value_bytes (uint n) = number_bytes n
  value_bytes (bool b) = refl
  value_bytes (text s) = string_bytes s
  value_bytes (octets s) = string_bytes s
  value_bytes null = refl
  value_bytes (bits32 n) = length_little 4 n
  value_bytes (bits64 n) = length_little 8 n
  value_bytes (structure es) = omega (arith, length-append (narrow_elements es) (24 ∷ []), members_bytes es)
  value_bytes (array es) = omega (arith, length-append (narrow_elements es) (24 ∷ []), members_bytes es)
  value_bytes (list es) = omega (arith, length-append (narrow_elements es) (24 ∷ []), members_bytes es)

  members_bytes : (es : Elements) → length (narrow_elements es) ≡ sizes es
  members_bytes none = refl
  members_bytes (more tag v es) =
      omega (arith, length-append (narrow tag v) (narrow_elements es), length-append (tag_field tag) (length_and_value v), value_bytes v, members_bytes es)

-- the bytes of a change
pub change_size : (entries : List Entry) → length (change_bytes entries) ≡ 2 + sizes (entry_trees entries)
change_size entries = omega (arith, length-append (narrow_elements (entry_trees entries)) (24 ∷ []), members_bytes (entry_trees entries))

pub append_size : (xs ys : List Entry) → sizes (entry_trees (xs ++ ys)) ≡ sizes (entry_trees xs) + sizes (entry_trees ys)
append_size [] ys = omega arith
append_size (x ∷ xs) ys = omega (arith, append_size xs ys)

-- what a field of a value takes, and nothing where there is none
abbrev pub value_size : Option Value → ℕ
value_size None = 0
value_size (Some value) = 2 + size (tree value)
