-- Two digits as a byte.
use Rattle.std.proofs.Common.{◌≡◌, ℕ, ◌+◌, ◌*◌, ◌<◌, ◌≤◌, Bool, Option, Some, None, Result, Ok, Err, ap, ◌∙◌, if◌then◌else◌}
use Rattle.std.proofs.lemmas.Bool.{le-leb, lt-leb}
use Rattle.hex.specs.Hex.{digit_or_error, hex_digit_value, pair_value, ◌>>=◌}
use Rattle.hex.specs.declared.error.FromHexError.{FromHexError}
use Rattle.hex.specs.declared.error.FromHexError.TheVariants.{InvalidHexCharacter}
use Rattle.mt_files.specs.Field.{up_to}

below : (value : ℕ) (found : Option ℕ) → found ≡ up_to 15 (Some value) → value ≤ 15 → found ≡ Some value
below value found e h = e ∙ ap (λ (t : Bool). if t then Some value else None) (le-leb value 15 h)

above : (value : ℕ) (found : Option ℕ) → found ≡ up_to 15 (Some value) → 15 < value → found ≡ None
above value found e h = e ∙ ap (λ (t : Bool). if t then Some value else None) (lt-leb value 15 h)

-- the byte of two digits, of which each was looked up
unfoldable byte_of : ℕ → ℕ → ℕ → Option ℕ → Option ℕ → Result ℕ FromHexError
byte_of a b i high low = digit_or_error a i high >>= (λ h. digit_or_error b (i + 1) low >>= (λ l. Ok (h * 16 + l)))

pub pair-ok : (a b high low i : ℕ) → hex_digit_value a ≡ up_to 15 (Some high) → hex_digit_value b ≡ up_to 15 (Some low) → high ≤ 15 → low ≤ 15
    → pair_value a b i ≡ Ok (high * 16 + low)
unfolding byte_of
pair-ok a b high low i ea eb h l = ap (λ (x : Option ℕ). byte_of a b i x (hex_digit_value b)) (below high (hex_digit_value a) ea h) ∙ ap (byte_of a b i (Some high)) (below low (hex_digit_value b) eb l)

pub pair-high : (a b high i : ℕ) → hex_digit_value a ≡ up_to 15 (Some high) → 15 < high → pair_value a b i ≡ Err (InvalidHexCharacter a i)
unfolding byte_of
pair-high a b high i ea h = ap (λ (x : Option ℕ). byte_of a b i x (hex_digit_value b)) (above high (hex_digit_value a) ea h)

pub pair-low : (a b high low i : ℕ) → hex_digit_value a ≡ up_to 15 (Some high) → hex_digit_value b ≡ up_to 15 (Some low) → high ≤ 15 → 15 < low
    → pair_value a b i ≡ Err (InvalidHexCharacter b (i + 1))
unfolding byte_of
pair-low a b high low i ea eb h l = ap (λ (x : Option ℕ). byte_of a b i x (hex_digit_value b)) (below high (hex_digit_value a) ea h) ∙ ap (byte_of a b i (Some high)) (above low (hex_digit_value b) eb l)
