-- The fields of a header: numbers of a few bytes, the lowest byte first, and flags in single bits.
use Rattle.std.specs.Prelude.{◌≡◌, ℕ, ◌/◌, ◌%◌, ◌^◌, ◌<◌, ◌==◌, Bool, List, [], length, Option, Some, None, slice_index, if◌then◌else◌}
use Rattle.byteorder.specs.Endian.{little_number}

-- whether a bit of a byte is set, where bit 0 is the lowest
abbrev pub is_set : ℕ → ℕ → Bool
is_set byte bit = byte / 2 ^ bit % 2 == 1

-- what a bit adds to its byte
abbrev pub flag : ℕ → Bool → ℕ
flag bit set = if set then 2 ^ bit else 0

-- Each item is a byte.
abbrev pub AreBytes : List ℕ → Type 0
AreBytes bytes = (i : ℕ) → slice_index bytes i < 256

-- IsNumber count n field: the field has this many bytes, and n is their little-endian value.
pub record IsNumber (count n : ℕ) (field : List ℕ) : Type 0 where
  pub size : length field ≡ count
  pub bytes : AreBytes field
  pub value : little_number count field ≡ n

-- IsOptional count number field: the field of a number that may be left out; it is empty where it is.
abbrev pub IsOptional : ℕ → Option ℕ → List ℕ → Type 0
IsOptional count None field = field ≡ []
IsOptional count (Some n) field = IsNumber count n field
