-- The tag: the formatted blocks are B0, the associated data and the plaintext, and each part is chained after
-- the one before it.
use Rattle.std.proofs.Common.{◌≡◌, ℕ, zero, suc, ◌+◌, ◌-◌, ◌*◌, ◌/◌, ◌<◌, ◌≤◌, List, [], ◌∷◌, ◌++◌, length, take, drop, replicate, slice_index, false, nat_eq, refl, sym, ap, ◌∙◌, arith, inl, inr}
use Rattle.std.specs.Int.{w16, to_be_bytes}
use Rattle.std.specs.Int.Bits.{xor_zero_l}
use Rattle.std.proofs.lemmas.Bool.{cases_lt, cond-false, cond-true, eq-eqb, ne_eqb}
use Rattle.std.proofs.lemmas.List.{drop_all, get_or-append_right, get_or-replicate, get_or-take, get_or_append_left, get_or_past, length-append, length-replicate, length-take, take_all}
use Rattle.std.proofs.lemmas.List.FromFn.{fill_by_all}
use Rattle.mt_ccm.specs.Aes.{cipher, xored}
use Rattle.mt_ccm.specs.Ccm.{aad_blocks, block_count, chained, counter_block, first_block, formatted, masked_tag, padded, tag}
use Rattle.mt_ccm.specs.Steps.{chained_aad, chained_all, filled}
use Rattle.mt_ccm.proofs.ChainFacts.{chained-append, chained_all_first, filled_whole, length-chained}
use Rattle.mt_ccm.proofs.MaskFacts.{length-cipher}
use Rattle.mt_ccm.proofs.StreamFacts.{length-filled, length-xored}

pub fourteen : (aad : List ℕ) → take 14 aad ++ replicate (16 - suc (suc (length (take 14 aad)))) 0
    ≡ slice_index aad 0 ∷ slice_index aad 1 ∷ slice_index aad 2 ∷ slice_index aad 3 ∷ slice_index aad 4 ∷ slice_index aad 5
    ∷ slice_index aad 6 ∷ slice_index aad 7 ∷ slice_index aad 8 ∷ slice_index aad 9 ∷ slice_index aad 10 ∷ slice_index aad 11
    ∷ slice_index aad 12 ∷ slice_index aad 13 ∷ []
fourteen aad =
    let front : List ℕ = take 14 aad in
    let n : ℕ = 16 - suc (suc (length front)) in
    let size = length-take 14 aad in
    let zeros = length-replicate {A = ℕ} n 0 in
    let both = length-append front (replicate n 0) in
    fill_by_all (λ k. slice_index aad k) (front ++ replicate n 0) 14 0 (omega arith) (λ k low.
    elim (cases_lt k (length front)) [
      | inl lt ↦ get_or_append_left front (replicate n 0) 0 k lt ∙ get_or-take 14 aad k 0 low
      | inr ge ↦
          get_or-append_right front (replicate n 0) (length front) k 0 refl ge
          ∙ get_or-replicate n (k - length front) 0 0 (omega arith) ∙ sym (get_or_past aad k 0 (omega arith))
    ])

pub no_aad : (key y aad : List ℕ) → length aad ≡ 0 → y ≡ chained_aad key y aad
unfolding chained_aad
no_aad key y aad none = sym (cond-true _ _ _ (eq-eqb (length aad) 0 none))

pub some_aad : (key y aad head state rest next : List ℕ) → (length aad ≡ 0 → ⊥)
    → head ≡ filled (take 16 (to_be_bytes w16 (length aad) ++ aad)) → state ≡ cipher key (xored y (filled head)) → rest ≡ drop 14 aad
    → next ≡ chained_all key state rest → next ≡ chained_aad key y aad
unfolding chained_aad
some_aad key y aad head state rest next some eh es er en =
    let string : List ℕ = to_be_bytes w16 (length aad) ++ aad in
    let upto : length (take 16 string) ≤ 16 = omega (arith, length-take 16 string) in
    let whole : filled head ≡ head = filled_whole head (ap length eh ∙ length-filled (take 16 string) upto) in
    let begun : state ≡ cipher key (xored y (filled (take 16 string))) = es ∙ ap (λ (p : List ℕ). cipher key (xored y p)) (whole ∙ eh) in
    en ∙ (λ i. chained_all key (begun i) (er i)) ∙ chained_all_first key y string (omega arith)
    ∙ sym (cond-false _ _ _ (ne_eqb (length aad) 0 some))

pub drop_fourteen : (aad : List ℕ) (n : ℕ) → length aad < 14 → n ≡ length aad → drop n aad ≡ drop 14 aad
drop_fourteen aad n short e = drop_all n aad (omega arith) ∙ sym (drop_all 14 aad (omega arith))

length-padded : (bytes : List ℕ) → length (padded bytes) ≡ 16 * block_count (length bytes)
unfolding padded
length-padded bytes =
    let n : ℕ = 16 * block_count (length bytes) - length bytes in
    let zeros = length-replicate {A = ℕ} n 0 in
    let both = length-append bytes (replicate n 0) in
    omega arith

xored_zeros : (n : ℕ) (xs : List ℕ) → length xs ≤ n → xored (replicate n 0) xs ≡ xs
xored_zeros zero [] le = refl
xored_zeros zero (x ∷ xs) le = absurd (omega arith)
xored_zeros (suc n) [] le = refl
xored_zeros (suc n) (x ∷ xs) le = λ i. xor_zero_l x i ∷ xored_zeros n xs (omega arith) i

-- how many blocks the associated data takes
aad_count : List ℕ → ℕ
aad_count [] = 0
aad_count (x ∷ xs) = block_count (length (x ∷ xs) + 2)

not_empty : (x : ℕ) (xs : List ℕ) → nat_eq (length (x ∷ xs)) 0 ≡ false
not_empty x xs = ne_eqb (length (x ∷ xs)) 0 (λ e. omega arith)

length-aad_blocks : (aad : List ℕ) → length (aad_blocks aad) ≡ 16 * aad_count aad
unfolding aad_blocks aad_count
length-aad_blocks [] = refl
length-aad_blocks (x ∷ xs) =
    let string : List ℕ = to_be_bytes w16 (length (x ∷ xs)) ++ (x ∷ xs) in
    let size : length string ≡ length (x ∷ xs) + 2 = omega arith in
    ap length (cond-false _ [] (padded string) (not_empty x xs)) ∙ length-padded string ∙ ap (λ (n : ℕ). 16 * block_count n) size

chained_aad_is : (key y aad : List ℕ) → chained key y (aad_blocks aad) (aad_count aad) ≡ chained_aad key y aad
unfolding aad_blocks aad_count chained_aad chained chained_all
chained_aad_is key y [] = refl
chained_aad_is key y (x ∷ xs) =
    let string : List ℕ = to_be_bytes w16 (length (x ∷ xs)) ++ (x ∷ xs) in
    let size : length (x ∷ xs) + 2 ≡ length string = omega arith in
    ap (λ (s : List ℕ). chained key y s (aad_count (x ∷ xs))) (cond-false _ [] (padded string) (not_empty x xs))
    ∙ ap (λ (n : ℕ). chained key y (padded string) (block_count n)) size
    ∙ sym (cond-false _ y (chained_all key y string) (not_empty x xs))

length-first_block : (nonce aad plain : List ℕ) → length nonce ≡ 13 → length (first_block nonce aad plain) ≡ 16
unfolding first_block
length-first_block nonce aad plain len = omega (arith, length-append nonce (to_be_bytes w16 (length plain)))

chained_first : (key first : List ℕ) → length first ≡ 16 → chained key (replicate 16 0) first 1 ≡ cipher key first
unfolding chained
chained_first key first len =
    let whole : take 16 first ≡ first = take_all 16 first (omega arith) in
    ap (cipher key) (ap (xored (replicate 16 0)) whole ∙ xored_zeros 16 first (omega arith))

pub tag_is : (key nonce aad plain : List ℕ) → length nonce ≡ 13
    → chained_all key (chained_aad key (cipher key (first_block nonce aad plain)) aad) plain ≡ tag key nonce aad plain
unfolding tag formatted chained_all
tag_is key nonce aad plain len =
    let first : List ℕ = first_block nonce aad plain in
    let middle : List ℕ = aad_blocks aad in
    let last : List ℕ = padded plain in
    let zeros : List ℕ = replicate 16 0 in
    let a : ℕ = aad_count aad in
    let p : ℕ = block_count (length plain) in
    let size : length (first ++ middle) ≡ 16 * (1 + a) = omega (arith, length-append first middle, length-first_block nonce aad plain len, length-aad_blocks aad) in
    let all : length (first ++ middle ++ last) / 16 ≡ 1 + a + p = omega (arith, length-append (first ++ middle) last, size, length-padded plain) in
    sym (ap (chained key zeros (first ++ middle ++ last)) all ∙ chained-append key zeros (first ++ middle) last (1 + a) p size
    ∙ ap (λ (y : List ℕ). chained key y last p)
    (chained-append key zeros first middle 1 a (length-first_block nonce aad plain len ∙ refl)
    ∙ ap (λ (y : List ℕ). chained key y middle a) (chained_first key first (length-first_block nonce aad plain len))
    ∙ chained_aad_is key (cipher key first) aad))

pub length-tag : (key nonce aad plain : List ℕ) → length (tag key nonce aad plain) ≡ 16
unfolding tag
length-tag key nonce aad plain =
    length-chained key (replicate 16 0) (formatted nonce aad plain) (length (formatted nonce aad plain) / 16) refl

pub length-masked_tag : (key nonce aad plain : List ℕ) → length (masked_tag key nonce aad plain) ≡ 16
unfolding masked_tag
length-masked_tag key nonce aad plain =
    omega (
      arith,
      length-xored (tag key nonce aad plain) (cipher key (counter_block nonce 0)),
      length-tag key nonce aad plain,
      length-cipher key (counter_block nonce 0),
    )

-- the tag under its mask, of the chaining value after the plaintext
pub masked_tag_is : (key nonce aad plain begin last result : List ℕ) → length nonce ≡ 13
    → begin ≡ chained_aad key (cipher key (first_block nonce aad plain)) aad → last ≡ chained_all key begin plain
    → result ≡ xored last (cipher key (counter_block nonce 0)) → result ≡ masked_tag key nonce aad plain
unfolding masked_tag
masked_tag_is key nonce aad plain begin last result len eb el er =
    let whole : last ≡ tag key nonce aad plain = el ∙ ap (λ (y : List ℕ). chained_all key y plain) eb ∙ tag_is key nonce aad plain len in
    er ∙ ap (λ (t : List ℕ). xored t (cipher key (counter_block nonce 0))) whole
