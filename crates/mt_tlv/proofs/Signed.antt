-- Signed numbers in two's complement of one, two, four and eight bytes.
use Rattle.std.proofs.Common.{◌≡◌, ℕ, zero, suc, ◌+◌, ◌*◌, ◌/◌, ◌%◌, ◌^◌, ◌-◌, ◌<◌, true, false, ltb, List, ◌∷◌, refl, ap, ◌∙◌, arith, inl, inr}
use Rattle.std.specs.Prelude.{ℤ, pos, negsuc}
use Rattle.std.specs.Int.{w64, cast_unsigned}
use Rattle.std.proofs.Math.Nat.{pow-succ', mul_assoc}
use Rattle.std.proofs.lemmas.Bool.{ltb-true, lt-ltb, le-ltb, cases_lt}
use Rattle.mt_tlv.specs.Narrow.{little_endian, fits_beside_sign}
use Rattle.mt_tlv.specs.Spelling.{bits_beside_sign}
use Rattle.mt_tlv.specs.Reading.{number_of, signed_of}

-- the digits of a number, and what is left of it above them
record Low (k n : ℕ) : Type 0 where
  above : ℕ
  below : number_of (little_endian k n) < 256 ^ k
  is : n ≡ number_of (little_endian k n) + 256 ^ k * above

low : (k n : ℕ) → Low k n
unfolding number_of
low zero n = record { above = n; below = omega arith; is = omega arith }
low (suc k) n =
    let p : 256 ^ suc k ≡ 256 * 256 ^ k = pow-succ' 256 k in
    let i = low k (n / 256) in
    let a : 256 ^ suc k * i.above ≡ 256 * (256 ^ k * i.above) = rw p (mul_assoc 256 (256 ^ k) i.above) in
    let b = i.below in
    let e = i.is in
    record { above = i.above; below = omega (arith, p, b); is = omega (arith, a, e) }

same_low : (k x q : ℕ) → little_endian k (x + 256 ^ k * q) ≡ little_endian k x
same_low zero x q = refl
same_low (suc k) x q =
    let p : 256 ^ suc k ≡ 256 * 256 ^ k = pow-succ' 256 k in
    let a : 256 ^ suc k * q ≡ 256 * (256 ^ k * q) = rw p (mul_assoc 256 (256 ^ k) q) in
    let first : (x + 256 ^ suc k * q) % 256 ≡ x % 256 = omega (arith, a) in
    let others : (x + 256 ^ suc k * q) / 256 ≡ x / 256 + 256 ^ k * q = omega (arith, a) in
    rw (first, others) (ap (λ (t : List ℕ). x % 256 ∷ t) (same_low k (x / 256) q))

signed_pos : (h n m : ℕ) → n < h → m ≡ n → signed_of (2 * h - 1) m ≡ pos n
signed_pos h n m lt e =
    let no : ltb ((2 * h - 1) / 2) n ≡ false = le-ltb _ _ (omega arith) in
    rw (e, no) refl

signed_neg : (h n m : ℕ) → n < h → m + suc n ≡ 2 * h → signed_of (2 * h - 1) m ≡ negsuc n
signed_neg h n m lt e =
    let yes : ltb ((2 * h - 1) / 2) m ≡ true = lt-ltb _ _ (omega arith) in
    let is : 2 * h - 1 - m ≡ n = omega arith in
    rw (yes, is) refl

pub again_1 : (z : ℤ) → fits_beside_sign 7 z ≡ true → signed_of 255 (number_of (little_endian 1 (cast_unsigned w64 z))) ≡ z
again_1 (pos n) f =
    let lt : n < 128 = ltb-true _ _ f in
    let d = low 1 n in
    signed_pos 128 n (number_of (little_endian 1 n)) lt (omega (arith, lt, d.below, d.is))
again_1 (negsuc n) f =
    let lt : n < 128 = ltb-true _ _ f in
    let d = low 1 (18446744073709551616 - suc n) in
    signed_neg 128 n (number_of (little_endian 1 (18446744073709551616 - suc n))) lt (omega (arith, lt, d.below, d.is))

pub again_2 : (z : ℤ) → fits_beside_sign 15 z ≡ true → signed_of 65535 (number_of (little_endian 2 (cast_unsigned w64 z))) ≡ z
again_2 (pos n) f =
    let lt : n < 32768 = ltb-true _ _ f in
    let d = low 2 n in
    signed_pos 32768 n (number_of (little_endian 2 n)) lt (omega (arith, lt, d.below, d.is))
again_2 (negsuc n) f =
    let lt : n < 32768 = ltb-true _ _ f in
    let d = low 2 (18446744073709551616 - suc n) in
    signed_neg 32768 n (number_of (little_endian 2 (18446744073709551616 - suc n))) lt (omega (arith, lt, d.below, d.is))

pub again_4 : (z : ℤ) → fits_beside_sign 31 z ≡ true → signed_of 4294967295 (number_of (little_endian 4 (cast_unsigned w64 z))) ≡ z
again_4 (pos n) f =
    let lt : n < 2147483648 = ltb-true _ _ f in
    let d = low 4 n in
    signed_pos 2147483648 n (number_of (little_endian 4 n)) lt (omega (arith, lt, d.below, d.is))
again_4 (negsuc n) f =
    let lt : n < 2147483648 = ltb-true _ _ f in
    let d = low 4 (18446744073709551616 - suc n) in
    signed_neg 2147483648 n (number_of (little_endian 4 (18446744073709551616 - suc n))) lt (omega (arith, lt, d.below, d.is))

pub again_8 : (z : ℤ) → fits_beside_sign 63 z ≡ true → signed_of 18446744073709551615 (number_of (little_endian 8 (cast_unsigned w64 z))) ≡ z
again_8 (pos n) f =
    let lt : n < 9223372036854775808 = ltb-true _ _ f in
    let d = low 8 n in
    signed_pos 9223372036854775808 n (number_of (little_endian 8 n)) lt (omega (arith, lt, d.below, d.is))
again_8 (negsuc n) f =
    let lt : n < 9223372036854775808 = ltb-true _ _ f in
    let d = low 8 (18446744073709551616 - suc n) in
    signed_neg 9223372036854775808 n (number_of (little_endian 8 (18446744073709551616 - suc n))) lt (omega (arith, lt, d.below, d.is))

-- what a signed number of w is that was read from bytes of this number
pub record Signed (w x : ℕ) (z : ℤ) : Type 0 where
  pub fits : fits_beside_sign (bits_beside_sign w) z ≡ true
  pub small : fits_beside_sign 63 z ≡ true
  pub same : little_endian (2 ^ w) (cast_unsigned w64 z) ≡ little_endian (2 ^ w) x

pub signed_1 : (x : ℕ) → x < 256 → Signed 0 x (signed_of 255 x)
signed_1 x lt =
    elim (cases_lt 127 x) [
      | inl a ↦
          let e : 18446744073709551616 - suc (255 - x) ≡ x + 256 * 72057594037927935 = omega (arith, lt, a) in
          rw (lt-ltb 127 x a) (record { fits = lt-ltb _ _ (omega (arith, lt, a)); small = lt-ltb _ _ (omega (arith, lt, a)); same = ap (little_endian 1) e ∙ same_low 1 x 72057594037927935 })
      | inr a ↦ rw (le-ltb 127 x a) (record { fits = lt-ltb _ _ (omega (arith, lt, a)); small = lt-ltb _ _ (omega (arith, lt, a)); same = refl })
    ]

pub signed_2 : (x : ℕ) → x < 65536 → Signed 1 x (signed_of 65535 x)
signed_2 x lt =
    elim (cases_lt 32767 x) [
      | inl a ↦
          let e : 18446744073709551616 - suc (65535 - x) ≡ x + 65536 * 281474976710655 = omega (arith, lt, a) in
          rw (lt-ltb 32767 x a) (record { fits = lt-ltb _ _ (omega (arith, lt, a)); small = lt-ltb _ _ (omega (arith, lt, a)); same = ap (little_endian 2) e ∙ same_low 2 x 281474976710655 })
      | inr a ↦ rw (le-ltb 32767 x a) (record { fits = lt-ltb _ _ (omega (arith, lt, a)); small = lt-ltb _ _ (omega (arith, lt, a)); same = refl })
    ]

pub signed_4 : (x : ℕ) → x < 4294967296 → Signed 2 x (signed_of 4294967295 x)
signed_4 x lt =
    elim (cases_lt 2147483647 x) [
      | inl a ↦
          let e : 18446744073709551616 - suc (4294967295 - x) ≡ x + 4294967296 * 4294967295 = omega (arith, lt, a) in
          rw (lt-ltb 2147483647 x a) (record { fits = lt-ltb _ _ (omega (arith, lt, a)); small = lt-ltb _ _ (omega (arith, lt, a)); same = ap (little_endian 4) e ∙ same_low 4 x 4294967295 })
      | inr a ↦ rw (le-ltb 2147483647 x a) (record { fits = lt-ltb _ _ (omega (arith, lt, a)); small = lt-ltb _ _ (omega (arith, lt, a)); same = refl })
    ]

pub signed_8 : (x : ℕ) → x < 18446744073709551616 → Signed 3 x (signed_of 18446744073709551615 x)
signed_8 x lt =
    elim (cases_lt 9223372036854775807 x) [
      | inl a ↦
          let e : 18446744073709551616 - suc (18446744073709551615 - x) ≡ x = omega (arith, lt, a) in
          rw (lt-ltb 9223372036854775807 x a) (record { fits = lt-ltb _ _ (omega (arith, lt, a)); small = lt-ltb _ _ (omega (arith, lt, a)); same = ap (little_endian 8) e })
      | inr a ↦ rw (le-ltb 9223372036854775807 x a) (record { fits = lt-ltb _ _ (omega (arith, lt, a)); small = lt-ltb _ _ (omega (arith, lt, a)); same = refl })
    ]
