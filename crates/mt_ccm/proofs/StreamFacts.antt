-- Lists of bytes under xor, blocks and padding.
use Rattle.std.proofs.Common.{◌≡◌, ℕ, zero, suc, ◌-◌, ◌<◌, ◌≤◌, List, [], ◌∷◌, length, replicate, bit_xor, slice_index, refl, sym, ap, ◌∙◌, arith, inl, inr, min}
use Rattle.std.specs.Int.Bits.{xor_zero_r}
use Rattle.std.proofs.lemmas.Bool.{cases_lt}
use Rattle.std.proofs.lemmas.List.{ext_get_or, get_or-append_right, get_or-replicate, get_or_append_left, get_or_past, length-append, length-replicate}
use Rattle.mt_ccm.specs.Aes.{xored}
use Rattle.mt_ccm.specs.Steps.{filled}

pub length-xored : (xs ys : List ℕ) → length (xored xs ys) ≡ min (length xs) (length ys)
length-xored [] ys = omega arith
length-xored (x ∷ xs) [] = omega arith
length-xored (x ∷ xs) (y ∷ ys) = omega (arith, length-xored xs ys)

pub slice_index-xored : (xs ys : List ℕ) (k : ℕ) → k < length xs → k < length ys
    → slice_index (xored xs ys) k ≡ bit_xor (slice_index xs k) (slice_index ys k)
slice_index-xored [] ys k l m = absurd (omega arith)
slice_index-xored (x ∷ xs) [] k l m = absurd (omega arith)
slice_index-xored (x ∷ xs) (y ∷ ys) zero l m = refl
slice_index-xored (x ∷ xs) (y ∷ ys) (suc k) l m = slice_index-xored xs ys k (omega arith) (omega arith)

pub length-filled : (bytes : List ℕ) → length bytes ≤ 16 → length (filled bytes) ≡ 16
length-filled bytes le = omega (arith, length-append bytes (replicate (16 - length bytes) 0), length-replicate {A = ℕ} (16 - length bytes) 0)

filled_within : (bytes : List ℕ) (k : ℕ) → k < length bytes → slice_index (filled bytes) k ≡ slice_index bytes k
filled_within bytes k low = get_or_append_left bytes (replicate (16 - length bytes) 0) 0 k low

filled_past : (bytes : List ℕ) (k : ℕ) → length bytes ≤ k → k < 16 → slice_index (filled bytes) k ≡ 0
filled_past bytes k ge low =
    get_or-append_right bytes (replicate (16 - length bytes) 0) (length bytes) k 0 refl ge
    ∙ get_or-replicate (16 - length bytes) (k - length bytes) 0 0 (omega arith)

-- a block xor at most 16 bytes, by its places
pub sum_is : (block bytes sum : List ℕ) (j : ℕ) → length block ≡ 16 → length bytes ≤ 16 → length bytes ≤ j → length sum ≡ 16
    → ((k : ℕ) → k < j → slice_index sum k ≡ bit_xor (slice_index block k) (slice_index bytes k))
    → ((k : ℕ) → j ≤ k → slice_index sum k ≡ slice_index block k)
    → sum ≡ xored block (filled bytes)
sum_is block bytes sum j lb le all ls done rest =
    let long : length (filled bytes) ≡ 16 = length-filled bytes le in
    ext_get_or 0 sum (xored block (filled bytes)) (omega (arith, length-xored block (filled bytes))) (λ k low.
    let at : slice_index (xored block (filled bytes)) k ≡ bit_xor (slice_index block k) (slice_index (filled bytes) k) =
    slice_index-xored block (filled bytes) k (omega arith) (omega arith) in
    elim (cases_lt k (length bytes)) [
      | inl lt ↦ done k (omega arith) ∙ ap (bit_xor (slice_index block k)) (sym (filled_within bytes k lt)) ∙ sym at
      | inr ge ↦
          let zero_there : slice_index (filled bytes) k ≡ 0 = filled_past bytes k ge (omega arith) in
          let none : slice_index bytes k ≡ 0 = get_or_past bytes k 0 ge in
          let to : slice_index block k ≡ slice_index (xored block (filled bytes)) k =
          sym (at ∙ ap (bit_xor (slice_index block k)) zero_there ∙ xor_zero_r (slice_index block k)) in
          elim (cases_lt k j) [
            | inl lt ↦ done k lt ∙ ap (bit_xor (slice_index block k)) none ∙ xor_zero_r (slice_index block k) ∙ to
            | inr le ↦ rest k le ∙ to
          ]
    ])
