-- Words of 32 bits as their four bytes: bytes make a word and come back, and xor goes byte by byte.
use Rattle.std.proofs.Common.{◌≡◌, ℕ, ◌+◌, ◌*◌, ◌/◌, ◌%◌, ◌^◌, ◌<◌, ◌≤◌, List, [], ◌∷◌, ◌++◌, length, take, drop, bit_xor, slice_index, refl, sym, ap, ◌∙◌, arith}
use Rattle.std.specs.Int.{w32, from_be_bytes}
use Rattle.std.proofs.lemmas.Nat.{xor_mod, xor_shr}
use Rattle.std.proofs.lemmas.List.{drop-drop, get_or-drop, get_or-take, length-drop, length-take-le}
use Rattle.std.proofs.lemmas.List.FromFn.{fill_by_all}
use Rattle.std.proofs.Math.Seq.{take-add}
use Rattle.mt_ccm.specs.Aes.{xored}
use Rattle.mt_ccm.specs.Words.{four_at, word_bytes}

byte_of_xor : (a b k : ℕ) → bit_xor a b / 2 ^ k % 2 ^ 8 ≡ bit_xor (a / 2 ^ k % 2 ^ 8) (b / 2 ^ k % 2 ^ 8)
byte_of_xor a b k = ap (λ (x : ℕ). x % 2 ^ 8) (xor_shr a b k) ∙ xor_mod (a / 2 ^ k) (b / 2 ^ k) 8

pub word_bytes-xor : (a b : ℕ) → word_bytes (bit_xor a b) ≡ xored (word_bytes a) (word_bytes b)
word_bytes-xor a b = λ i. byte_of_xor a b 24 i ∷ byte_of_xor a b 16 i ∷ byte_of_xor a b 8 i ∷ xor_mod a b 8 i ∷ []

four_bytes : (a b c d n : ℕ) → a < 256 → b < 256 → c < 256 → d < 256 → n ≡ a * 16777216 + b * 65536 + c * 256 + d
    → word_bytes n ≡ a ∷ b ∷ c ∷ d ∷ []
four_bytes a b c d n la lb lc ld e =
    let ea : n / 16777216 % 256 ≡ a = omega arith in
    let eb : n / 65536 % 256 ≡ b = omega arith in
    let ec : n / 256 % 256 ≡ c = omega arith in
    let ed : n % 256 ≡ d = omega arith in
    λ i. ea i ∷ eb i ∷ ec i ∷ ed i ∷ []

pub word_bytes-from_be_bytes : (a b c d n : ℕ) → a < 256 → b < 256 → c < 256 → d < 256 → n ≡ from_be_bytes w32 (a ∷ b ∷ c ∷ d ∷ [])
    → word_bytes n ≡ a ∷ b ∷ c ∷ d ∷ []
word_bytes-from_be_bytes a b c d n la lb lc ld e = four_bytes a b c d n la lb lc ld (e ∙ omega arith)

-- the four bytes at a place, and the sixteen
pub four_is : (bytes : List ℕ) (at : ℕ) → at + 4 ≤ length bytes → four_at bytes at ≡ take 4 (drop at bytes)
four_is bytes at le =
    let here : at + 0 ≡ at = omega arith in
    let len : length (take 4 (drop at bytes)) ≡ 4 = length-take-le 4 (drop at bytes) (omega (arith, length-drop at bytes)) in
    sym (fill_by_all (λ k. slice_index bytes (at + k)) (take 4 (drop at bytes)) 4 0 len (λ k low.
    get_or-take 4 (drop at bytes) k 0 low ∙ get_or-drop at bytes k 0)
    ∙ ap (λ (n : ℕ). slice_index bytes n ∷ slice_index bytes (at + 1) ∷ slice_index bytes (at + 2) ∷ slice_index bytes (at + 3) ∷ []) here)

pub sixteen_is : (bytes : List ℕ) (at : ℕ) → at + 16 ≤ length bytes
    → four_at bytes at ++ four_at bytes (at + 4) ++ four_at bytes (at + 8) ++ four_at bytes (at + 12) ≡ take 16 (drop at bytes)
sixteen_is bytes at le =
    let rest : List ℕ = drop at bytes in
    let two = four_is bytes (at + 4) (omega arith) ∙ ap (take 4) (sym (drop-drop 4 at bytes)) in
    let three = four_is bytes (at + 8) (omega arith) ∙ ap (take 4) (sym (drop-drop 8 at bytes)) in
    let four = four_is bytes (at + 12) (omega arith) ∙ ap (take 4) (sym (drop-drop 12 at bytes)) in
    (λ i. four_is bytes at (omega arith) i ++ two i ++ three i ++ four i)
    ∙ sym (take-add 12 4 rest ∙ ap (λ (l : List ℕ). l ++ take 4 (drop 12 rest)) (take-add 8 4 rest
    ∙ ap (λ (l : List ℕ). l ++ take 4 (drop 8 rest)) (take-add 4 4 rest)))

pub four_before : (old new : List ℕ) (at m : ℕ) → ((k : ℕ) → k < m → slice_index new k ≡ slice_index old k) → at + 4 ≤ m
    → four_at new at ≡ four_at old at
four_before old new at m same le =
    let a : slice_index new at ≡ slice_index old at = same at (omega arith) in
    let b : slice_index new (at + 1) ≡ slice_index old (at + 1) = same (at + 1) (omega arith) in
    let c : slice_index new (at + 2) ≡ slice_index old (at + 2) = same (at + 2) (omega arith) in
    let d : slice_index new (at + 3) ≡ slice_index old (at + 3) = same (at + 3) (omega arith) in
    rw (a, b, c, d) refl

-- a list of sixteen, written out
pub sixteen : (xs : List ℕ) → length xs ≡ 16
    → xs ≡ slice_index xs 0 ∷ slice_index xs 1 ∷ slice_index xs 2 ∷ slice_index xs 3 ∷ slice_index xs 4 ∷ slice_index xs 5
    ∷ slice_index xs 6 ∷ slice_index xs 7 ∷ slice_index xs 8 ∷ slice_index xs 9 ∷ slice_index xs 10 ∷ slice_index xs 11
    ∷ slice_index xs 12 ∷ slice_index xs 13 ∷ slice_index xs 14 ∷ slice_index xs 15 ∷ []
sixteen xs len = fill_by_all (λ k. slice_index xs k) xs 16 0 len (λ k low. refl)

-- a list of thirteen, written out
pub thirteen : (xs : List ℕ) → length xs ≡ 13
    → xs ≡ slice_index xs 0 ∷ slice_index xs 1 ∷ slice_index xs 2 ∷ slice_index xs 3 ∷ slice_index xs 4 ∷ slice_index xs 5
    ∷ slice_index xs 6 ∷ slice_index xs 7 ∷ slice_index xs 8 ∷ slice_index xs 9 ∷ slice_index xs 10 ∷ slice_index xs 11
    ∷ slice_index xs 12 ∷ []
thirteen xs len = fill_by_all (λ k. slice_index xs k) xs 13 0 len (λ k low. refl)
