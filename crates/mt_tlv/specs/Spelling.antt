-- How an element is spelled, with numbers, lengths and tag numbers in any of their widths
-- (Matter Core Specification, Appendix A).
use Rattle.std.specs.Prelude.{◌≡◌, ℕ, ◌+◌, ◌*◌, ◌^◌, ◌<◌, ◌-◌, Bool, true, List, [], ◌∷◌, ◌++◌, length, if◌then◌else◌}
use Rattle.std.specs.Int.{w64, cast_unsigned}
use Rattle.mt_tlv.specs.declared.value.Tag.{Tag}
use Rattle.mt_tlv.specs.declared.value.Tag.TheVariants.{Anonymous, Context, Common, Implicit, Full}
use Rattle.mt_tlv.specs.Tree.{Tree, int, uint, bool, text, octets, null, bits32, bits64, structure, array, list, Elements, none, more}
use Rattle.mt_tlv.specs.Narrow.{little_endian, fits_beside_sign, end_of_container}

-- how many bits a signed number of this width has beside its sign; w stands for 2 ^ w bytes
abbrev pub bits_beside_sign : ℕ → ℕ
bits_beside_sign w = 8 * 2 ^ w - 1

-- how many bytes a profile's tag number takes, short or long
abbrev pub profile_width : Bool → ℕ
profile_width long = if long then 4 else 2

-- The field spells the number of a profile.
abbrev pub IsProfileNumber : Bool → ℕ → List ℕ → Type 0
IsProfileNumber long n field = (n < 256 ^ profile_width long) × (field ≡ little_endian (profile_width long) n)

-- IsTagField tag control field: the field spells the tag, under this tag control.
abbrev pub IsTagField : Tag → ℕ → List ℕ → Type 0
IsTagField Anonymous control field = (control ≡ 0) × (field ≡ [])
IsTagField (Context n) control field = (control ≡ 1) × (field ≡ n ∷ [])
IsTagField (Common n) control field = (long : Bool) × (control ≡ (if long then 3 else 2)) × IsProfileNumber long n field
IsTagField (Implicit n) control field = (long : Bool) × (control ≡ (if long then 5 else 4)) × IsProfileNumber long n field
IsTagField (Full v p n) control field = (long : Bool) × (number : List ℕ) × (control ≡ (if long then 7 else 6)) × (v < 2 ^ 16) × (p < 2 ^ 16) × IsProfileNumber long n number
    × (field ≡ little_endian 2 v ++ (little_endian 2 p ++ number))

-- IsOpening tag type opening: the control octet and the tag field of an element of this type.
abbrev pub IsOpening : Tag → ℕ → List ℕ → Type 0
IsOpening tag type opening = (control : ℕ) × (field : List ℕ) × IsTagField tag control field × (opening ≡ (32 * control + type) ∷ field)

-- IsString first s type body: after their length the bytes, where the element type is the first of its kind for lengths of one byte.
abbrev pub IsString : ℕ → List ℕ → ℕ → List ℕ → Type 0
IsString first s type body = (w : ℕ) × (w < 4) × (type ≡ first + w) × (length s < 256 ^ (2 ^ w)) × (body ≡ little_endian (2 ^ w) (length s) ++ s)

abbrev mutual
  -- IsBody v type body: the length field and the value field of this value, in an element of this type.
  pub IsBody : Tree → ℕ → List ℕ → Type 0
  IsBody (int z) type body = (type < 4) × (fits_beside_sign (bits_beside_sign type) z ≡ true) × (body ≡ little_endian (2 ^ type) (cast_unsigned w64 z))
  IsBody (uint n) type body = (w : ℕ) × (w < 4) × (type ≡ 4 + w) × (n < 256 ^ (2 ^ w)) × (body ≡ little_endian (2 ^ w) n)
  IsBody (bool b) type body = (type ≡ (if b then 9 else 8)) × (body ≡ [])
  IsBody (bits32 n) type body = (type ≡ 10) × (n < 2 ^ 32) × (body ≡ little_endian 4 n)
  IsBody (bits64 n) type body = (type ≡ 11) × (n < 2 ^ 64) × (body ≡ little_endian 8 n)
  IsBody (text s) type body = IsString 12 s type body
  IsBody (octets s) type body = IsString 16 s type body
  IsBody null type body = (type ≡ 20) × (body ≡ [])
  IsBody (structure es) type body = (inner : List ℕ) × (type ≡ 21) × AreSpelled es inner × (body ≡ inner ++ end_of_container ∷ [])
  IsBody (array es) type body = (inner : List ℕ) × (type ≡ 22) × AreSpelled es inner × (body ≡ inner ++ end_of_container ∷ [])
  IsBody (list es) type body = (inner : List ℕ) × (type ≡ 23) × AreSpelled es inner × (body ≡ inner ++ end_of_container ∷ [])

  -- elements one after the other
  pub AreSpelled : Elements → List ℕ → Type 0
  AreSpelled none bytes = bytes ≡ []
  AreSpelled (more tag v es) bytes = (type : ℕ) × (opening : List ℕ) × (body : List ℕ) × (others : List ℕ)
      × IsOpening tag type opening × IsBody v type body × AreSpelled es others × (bytes ≡ opening ++ (body ++ others))

-- Spells tag v bytes: the bytes are a spelling of the value under the tag.
abbrev pub Spells : Tag → Tree → List ℕ → Type 0
Spells tag v bytes = (type : ℕ) × (opening : List ℕ) × (body : List ℕ) × IsOpening tag type opening × IsBody v type body × (bytes ≡ opening ++ body)
