-- The CBC-MAC over a padded string, block by block.
use Rattle.std.proofs.Common.{◌≡◌, ℕ, zero, suc, ◌+◌, ◌-◌, ◌*◌, ◌<◌, ◌≤◌, List, [], ◌++◌, length, take, drop, replicate, refl, sym, ap, ◌∙◌, arith, add-one, inl, inr}
use Rattle.std.proofs.lemmas.Bool.{cases_lt}
use Rattle.std.proofs.lemmas.List.{append-nil, drop-append-le, drop-drop, length-drop, length-take-le, nil_from_length, take-append-le, take_all}
use Rattle.mt_ccm.specs.Aes.{cipher, xored}
use Rattle.mt_ccm.specs.Ccm.{block_count, chained, padded}
use Rattle.mt_ccm.specs.Steps.{chained_all, filled}
use Rattle.mt_ccm.proofs.MaskFacts.{length-cipher}
use Rattle.mt_ccm.proofs.StreamFacts.{length-filled}

pub chained_block : (key y string : List ℕ) (n : ℕ)
    → chained key y string (n + 1) ≡ chained key (cipher key (xored y (take 16 string))) (drop 16 string) n
unfolding chained
chained_block key y string n = rw add-one refl

pub filled_whole : (bytes : List ℕ) → length bytes ≡ 16 → filled bytes ≡ bytes
filled_whole bytes len =
    let none : 16 - length bytes ≡ 0 = omega arith in
    ap (λ (n : ℕ). bytes ++ replicate n 0) none ∙ append-nil bytes

take_padded : (rest : List ℕ) → 16 ≤ length rest → take 16 (padded rest) ≡ take 16 rest
unfolding padded
take_padded rest long = take-append-le 16 rest (replicate (16 * block_count (length rest) - length rest) 0) long

drop_padded : (rest : List ℕ) → 16 ≤ length rest → drop 16 (padded rest) ≡ padded (drop 16 rest)
unfolding padded
drop_padded rest long =
    let len : length (drop 16 rest) ≡ length rest - 16 = length-drop 16 rest in
    let zeros : 16 * block_count (length rest) - length rest ≡ 16 * block_count (length (drop 16 rest)) - length (drop 16 rest) = omega arith in
    drop-append-le 16 rest (replicate (16 * block_count (length rest) - length rest) 0) long
    ∙ ap (λ (n : ℕ). drop 16 rest ++ replicate n 0) zeros

chained_all_more : (key y rest : List ℕ) → 16 ≤ length rest
    → chained_all key y rest ≡ chained_all key (cipher key (xored y (take 16 rest))) (drop 16 rest)
unfolding chained_all
chained_all_more key y rest long =
    let len : length (drop 16 rest) ≡ length rest - 16 = length-drop 16 rest in
    let n : ℕ = block_count (length (drop 16 rest)) in
    let count : block_count (length rest) ≡ n + 1 = omega arith in
    ap (chained key y (padded rest)) count ∙ chained_block key y (padded rest) n
    ∙ (λ i. chained key (cipher key (xored y (take_padded rest long i))) (drop_padded rest long i) n)

-- a turn of the loop
pub turn_is : (key y bytes part next : List ℕ) (i : ℕ) → 16 * i + 16 ≤ length bytes → part ≡ take 16 (drop (16 * i) bytes)
    → next ≡ cipher key (xored y (filled part)) → chained_all key next (drop (16 * (i + 1)) bytes) ≡ chained_all key y (drop (16 * i) bytes)
turn_is key y bytes part next i le is e =
    let rest : List ℕ = drop (16 * i) bytes in
    let long : 16 ≤ length rest = omega (arith, length-drop (16 * i) bytes) in
    let whole : filled part ≡ take 16 rest = ap (λ (p : List ℕ). filled p) is ∙ filled_whole (take 16 rest) (length-take-le 16 rest long) in
    let place : 16 * (i + 1) ≡ 16 * i + 16 = omega arith in
    let further : drop (16 * (i + 1)) bytes ≡ drop 16 rest = ap (λ (n : ℕ). drop n bytes) place ∙ sym (drop-drop 16 (16 * i) bytes) in
    (λ j. chained_all key ((e ∙ ap (λ (p : List ℕ). cipher key (xored y p)) whole) j) (further j)) ∙ sym (chained_all_more key y rest long)

pub none_left : (key y rest : List ℕ) → length rest ≡ 0 → y ≡ chained_all key y rest
unfolding chained_all chained
none_left key y rest len = ap (λ (r : List ℕ). chained key y (padded r) (block_count (length r))) (sym (nil_from_length rest len))

-- the last block, which is not whole
pub last_is : (key y rest next : List ℕ) → 0 < length rest → length rest < 16 → next ≡ cipher key (xored y (filled rest))
    → next ≡ chained_all key y rest
unfolding chained_all chained padded
last_is key y rest next some short e =
    let count : block_count (length rest) ≡ 1 = omega arith in
    let all : take 16 (filled rest) ≡ filled rest = take_all 16 (filled rest) (omega (arith, length-filled rest (omega arith))) in
    e ∙ ap (λ (p : List ℕ). cipher key (xored y p)) (sym all)
    ∙ ap (λ (n : ℕ). chained key y (rest ++ replicate (16 * n - length rest) 0) n) (sym count)

-- the first block of a string that is not empty, and the rest
pub chained_all_first : (key y rest : List ℕ) → 0 < length rest
    → chained_all key (cipher key (xored y (filled (take 16 rest)))) (drop 16 rest) ≡ chained_all key y rest
chained_all_first key y rest some = elim (cases_lt (length rest) 16) [
  | inl short ↦
      let all : take 16 rest ≡ rest = take_all 16 rest (omega arith) in
      let next : List ℕ = cipher key (xored y (filled (take 16 rest))) in
      sym (none_left key next (drop 16 rest) (omega (arith, length-drop 16 rest)))
      ∙ last_is key y rest next some short (ap (λ (p : List ℕ). cipher key (xored y (filled p))) all)
  | inr long ↦
      ap (λ (p : List ℕ). chained_all key (cipher key (xored y p)) (drop 16 rest)) (filled_whole (take 16 rest) (length-take-le 16 rest long))
      ∙ sym (chained_all_more key y rest long)
]

pub length-chained : (key y string : List ℕ) (n : ℕ) → length y ≡ 16 → length (chained key y string n) ≡ 16
unfolding chained
length-chained key y string zero len = len
length-chained key y string (suc n) len =
    length-chained key (cipher key (xored y (take 16 string))) (drop 16 string) n (length-cipher key (xored y (take 16 string)))

-- a string of whole blocks, and another behind it
pub chained-append : (key y a b : List ℕ) (n m : ℕ) → length a ≡ 16 * n
    → chained key y (a ++ b) (n + m) ≡ chained key (chained key y a n) b m
unfolding chained
chained-append key y a b zero m len =
    let none : a ≡ [] = nil_from_length a (omega arith) in
    let zero_more : 0 + m ≡ m = omega arith in
    λ i. chained key y (none i ++ b) (zero_more i)
chained-append key y a b (suc n) m len =
    let long : 16 ≤ length a = omega arith in
    let count : suc n + m ≡ (n + m) + 1 = omega arith in
    ap (chained key y (a ++ b)) count ∙ chained_block key y (a ++ b) (n + m)
    ∙ (λ i. chained key (cipher key (xored y (take-append-le 16 a b long i))) (drop-append-le 16 a b long i) (n + m))
    ∙ chained-append key (cipher key (xored y (take 16 a))) (drop 16 a) b n m (omega (arith, length-drop 16 a))
