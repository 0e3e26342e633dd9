-- The narrow encoding of an element: each number, each length and each profile-specific tag number
-- takes the fewest bytes that the format offers (Matter Core Specification, Appendix A).
use Rattle.std.specs.Prelude.{ℕ, zero, suc, ◌+◌, ◌*◌, ◌/◌, ◌%◌, ◌^◌, ℤ, pos, negsuc, Bool, List, [], ◌∷◌, ◌++◌, length, nat_lt, if◌then◌else◌}
use Rattle.std.specs.Int.{w64, cast_unsigned}
use Rattle.mt_tlv.specs.declared.value.Tag.{Tag}
use Rattle.mt_tlv.specs.declared.value.Tag.TheVariants.{Anonymous, Context, Common, Implicit, Full}
use Rattle.mt_tlv.specs.Tree.{Tree, int, uint, bool, text, octets, null, bits32, bits64, structure, array, list, Elements, none, more}

-- the lowest k bytes of a number, the lowest of them first
abbrev pub little_endian : ℕ → ℕ → List ℕ
little_endian zero n = []
little_endian (suc k) n = n % 256 ∷ little_endian k (n / 256)

-- the least width of an unsigned number, as an element type gives it: w stands for 2 ^ w bytes
abbrev pub width_of : ℕ → ℕ
width_of n = if nat_lt n (2 ^ 8) then 0 else if nat_lt n (2 ^ 16) then 1 else if nat_lt n (2 ^ 32) then 2 else 3

-- whether a signed number fits two's complement of k bits beside the sign: from - 2 ^ k up to 2 ^ k - 1
abbrev pub fits_beside_sign : ℕ → ℤ → Bool
fits_beside_sign k (pos n) = nat_lt n (2 ^ k)
fits_beside_sign k (negsuc n) = nat_lt n (2 ^ k)

-- the least width of a signed number
abbrev pub signed_width_of : ℤ → ℕ
signed_width_of z = if fits_beside_sign 7 z then 0 else if fits_beside_sign 15 z then 1 else if fits_beside_sign 31 z then 2 else 3

-- an unsigned number in its least width
abbrev pub narrow_unsigned : ℕ → List ℕ
narrow_unsigned n = little_endian (2 ^ width_of n) n

-- a signed number in its least width, in two's complement
abbrev pub narrow_signed : ℤ → List ℕ
narrow_signed z = little_endian (2 ^ signed_width_of z) (cast_unsigned w64 z)

-- bytes after their length
abbrev pub narrow_string : List ℕ → List ℕ
narrow_string s = narrow_unsigned (length s) ++ s

-- whether a profile's tag number takes 2 bytes, and not 4
abbrev pub is_short_number : ℕ → Bool
is_short_number n = nat_lt n (2 ^ 16)

abbrev pub profile_number : ℕ → List ℕ
profile_number n = little_endian (if is_short_number n then 2 else 4) n

-- the tag control, the upper three bits of the control octet
abbrev pub tag_control : Tag → ℕ
tag_control Anonymous = 0
tag_control (Context n) = 1
tag_control (Common n) = if is_short_number n then 2 else 3
tag_control (Implicit n) = if is_short_number n then 4 else 5
tag_control (Full v p n) = if is_short_number n then 6 else 7

-- the tag field, which follows the control octet
abbrev pub tag_field : Tag → List ℕ
tag_field Anonymous = []
tag_field (Context n) = n ∷ []
tag_field (Common n) = profile_number n
tag_field (Implicit n) = profile_number n
tag_field (Full v p n) = little_endian 2 v ++ (little_endian 2 p ++ profile_number n)

-- the element type, the lower five bits of the control octet
abbrev pub element_type : Tree → ℕ
element_type (int z) = signed_width_of z
element_type (uint n) = 4 + width_of n
element_type (bool b) = if b then 9 else 8
element_type (text s) = 12 + width_of (length s)
element_type (octets s) = 16 + width_of (length s)
element_type null = 20
element_type (bits32 n) = 10
element_type (bits64 n) = 11
element_type (structure es) = 21
element_type (array es) = 22
element_type (list es) = 23

-- the element type that ends a container, in a control octet with no tag
abbrev pub end_of_container : ℕ
end_of_container = 24

-- the control octet and the tag field
abbrev pub opening : Tag → ℕ → List ℕ
opening tag type = (32 * tag_control tag + type) ∷ tag_field tag

abbrev mutual
  -- the length field and the value field, which follow the tag field
  pub length_and_value : Tree → List ℕ
  length_and_value (int z) = narrow_signed z
  length_and_value (uint n) = narrow_unsigned n
  length_and_value (bool b) = []
  length_and_value (text s) = narrow_string s
  length_and_value (octets s) = narrow_string s
  length_and_value null = []
  length_and_value (bits32 n) = little_endian 4 n
  length_and_value (bits64 n) = little_endian 8 n
  length_and_value (structure es) = narrow_elements es ++ end_of_container ∷ []
  length_and_value (array es) = narrow_elements es ++ end_of_container ∷ []
  length_and_value (list es) = narrow_elements es ++ end_of_container ∷ []

  -- elements one after the other
  pub narrow_elements : Elements → List ℕ
  narrow_elements none = []
  narrow_elements (more tag v es) = (opening tag (element_type v) ++ length_and_value v) ++ narrow_elements es

-- an element of this tag and value
abbrev pub narrow : Tag → Tree → List ℕ
narrow tag v = opening tag (element_type v) ++ length_and_value v
