-- Numbers of a few bytes.
use Rattle.std.proofs.Common.{◌≡◌, ℕ, zero, suc, ◌+◌, ◌*◌, ◌/◌, ◌%◌, ◌^◌, ◌<◌, ◌≤◌, ◌-◌, List, [], ◌∷◌, length, get_or, take, drop, refl, ap, ◌∙◌, arith, inl, inr}
use Rattle.std.proofs.Math.Nat.{pow-succ', pow-le-pow_right}
use Rattle.std.proofs.lemmas.List.{drop_more, get_or-drop, get_or-take, get_or_past, length-drop, length-take}
use Rattle.std.proofs.lemmas.Bool.{cases_lt}
use Rattle.mt_tlv.specs.Reading.{number_of}
use Rattle.mt_tlv.specs.Narrow.{little_endian}

abbrev pub IsBytes : List ℕ → Type 0
IsBytes bytes = (i : ℕ) → get_or bytes i 0 < 256

pub IsBytes-rest : (b : ℕ) (bytes : List ℕ) → IsBytes (b ∷ bytes) → IsBytes bytes
IsBytes-rest b bytes h i = h (suc i)

pub number_of-below : (bytes : List ℕ) → IsBytes bytes → number_of bytes < 256 ^ length bytes
unfolding number_of
number_of-below [] fits = omega arith
number_of-below (b ∷ bytes) fits =
    let p : 256 ^ suc (length bytes) ≡ 256 * 256 ^ length bytes = pow-succ' 256 (length bytes) in
    omega (arith, p, fits 0, number_of-below bytes (IsBytes-rest b bytes fits))

pub IsBytes-drop : (n : ℕ) (bytes : List ℕ) → IsBytes bytes → IsBytes (drop n bytes)
IsBytes-drop n bytes h i = rw get_or-drop (h (n + i))

pub IsBytes-take : (n : ℕ) (bytes : List ℕ) → IsBytes bytes → IsBytes (take n bytes)
IsBytes-take n bytes h i =
    elim (cases_lt i n) [
      | inl lt ↦ rw (get_or-take n bytes i 0 lt) (h i)
      | inr le ↦ rw (get_or_past (take n bytes) i 0 (omega (arith, length-take n bytes))) (omega arith)
    ]

-- of any eight bytes, the number of those behind the first
pub number_of-below_7 : (bytes : List ℕ) (i : ℕ) → IsBytes bytes → length bytes ≤ 8 → 0 < i → number_of (drop i bytes) < 256 ^ 7
number_of-below_7 bytes i fits short pos =
    let few : length (drop i bytes) ≤ 7 = simp length-drop (omega arith) in
    let bound : 256 ^ length (drop i bytes) ≤ 256 ^ 7 = pow-le-pow_right (omega arith) few in
    omega (arith, bound, number_of-below (drop i bytes) (IsBytes-drop i bytes fits))

pub number_of-below_8 : (bytes : List ℕ) → IsBytes bytes → length bytes ≤ 8 → number_of bytes < 2 ^ 64
number_of-below_8 bytes fits short =
    let bound : 256 ^ length bytes ≤ 256 ^ 8 = pow-le-pow_right (omega arith) short in
    omega (arith, bound, number_of-below bytes fits)

pub number_of-next : (bytes : List ℕ) (i : ℕ) → 0 < i → i ≤ length bytes → number_of (drop (i - 1) bytes) ≡ number_of (drop i bytes) * 256 + get_or bytes (i - 1) 0
unfolding number_of
number_of-next bytes i pos le =
    let k : i - 1 + 1 ≡ i = omega arith in
    let e : drop (i - 1) bytes ≡ get_or bytes (i - 1) 0 ∷ drop i bytes = drop_more bytes (i - 1) 0 (omega arith) ∙ ap (λ n. get_or bytes (i - 1) 0 ∷ drop n bytes) k in
    ap number_of e ∙ omega arith

pub number_of-none : (bytes : List ℕ) → number_of (drop (length bytes) bytes) ≡ 0
unfolding number_of
number_of-none [] = refl
number_of-none (b ∷ bytes) = number_of-none bytes

pub length-little_endian : (k n : ℕ) → length (little_endian k n) ≡ k
length-little_endian zero n = refl
length-little_endian (suc k) n = ap suc (length-little_endian k (n / 256))

-- the digits give the number back
pub number_of-little_endian : (k n : ℕ) → n < 256 ^ k → number_of (little_endian k n) ≡ n
unfolding number_of
number_of-little_endian zero n lt = omega arith
number_of-little_endian (suc k) n lt =
    let p : 256 ^ suc k ≡ 256 * 256 ^ k = pow-succ' 256 k in
    let less : n / 256 < 256 ^ k = omega (arith, p) in
    omega (arith, number_of-little_endian k (n / 256) less)

-- the number gives the digits back
pub little_endian-number_of : (bytes : List ℕ) → IsBytes bytes → little_endian (length bytes) (number_of bytes) ≡ bytes
unfolding number_of
little_endian-number_of [] fits = refl
little_endian-number_of (b ∷ bytes) fits =
    let low : (b + 256 * number_of bytes) % 256 ≡ b = omega (arith, fits 0) in
    let high : (b + 256 * number_of bytes) / 256 ≡ number_of bytes = omega (arith, fits 0) in
    rw (low, high) (ap (λ (x : List ℕ). b ∷ x) (little_endian-number_of bytes (IsBytes-rest b bytes fits)))
