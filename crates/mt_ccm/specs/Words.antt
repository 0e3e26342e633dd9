-- How words of 32 bits hold bytes: the highest first.
use Rattle.std.specs.Prelude.{◌≡◌, ℕ, ◌+◌, ◌*◌, ◌<◌, List, [], ◌∷◌, ◌++◌, slice_index}
use Rattle.std.specs.Int.{w32, to_be_bytes}
use Rattle.mt_ccm.specs.Aes.{round_key}

-- the four bytes of a word
abbrev pub word_bytes : ℕ → List ℕ
word_bytes word = to_be_bytes w32 word

-- the four bytes of a string from place i on
abbrev pub four_at : List ℕ → ℕ → List ℕ
four_at bytes i =
    slice_index bytes i ∷ slice_index bytes (i + 1) ∷ slice_index bytes (i + 2) ∷ slice_index bytes (i + 3) ∷ []

-- the block of four words from place i on
abbrev pub block_at : List ℕ → ℕ → List ℕ
block_at words i =
    word_bytes (slice_index words i) ++ word_bytes (slice_index words (i + 1))
    ++ word_bytes (slice_index words (i + 2)) ++ word_bytes (slice_index words (i + 3))

-- the words are the key schedule of a key: its eleven round keys
abbrev pub IsScheduleOf : List ℕ → List ℕ → Type 0
IsScheduleOf key words = (n : ℕ) → n < 11 → block_at words (4 * n) ≡ round_key key n
