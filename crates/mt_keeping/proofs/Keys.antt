-- Keys are in a total order.
use Rattle.std.proofs.Common.{◌≡◌, ℕ, true, false, List, [], ◌∷◌, refl, ap, ◌∙◌, arith}
use Rattle.std.specs.Prelude.{◌==◌}
use Rattle.std.proofs.lemmas.Bool.{and_from, and_parts}
use Rattle.std.proofs.lemmas.Bool.Decides.{nat_tests}
use Rattle.mt_durable.specs.Keys.{is_before, is_same}

pub same_is : (a b : List ℕ) → is_same a b ≡ true → a ≡ b
same_is [] [] same = refl
same_is [] (y ∷ ys) same = absurd (grind (arith, same))
same_is (x ∷ xs) [] same = absurd (grind (arith, same))
same_is (x ∷ xs) (y ∷ ys) same =
    let both = and_parts (x == y) (is_same xs ys) same in
    let head : x ≡ y = grind (arith, nat_tests, both.0) in
    ap (λ (n : ℕ). n ∷ xs) head ∙ ap (λ (l : List ℕ). y ∷ l) (same_is xs ys both.1)

pub same_itself : (a : List ℕ) → is_same a a ≡ true
same_itself [] = refl
same_itself (x ∷ xs) = and_from (x == x) (is_same xs xs) (grind (arith, nat_tests)) (same_itself xs)

-- no key comes before itself
pub before_differs : (a b : List ℕ) → is_before a b ≡ true → is_same a b ≡ false
before_differs a [] before = absurd (grind (arith, before))
before_differs [] (y ∷ ys) before = refl
before_differs (x ∷ xs) (y ∷ ys) before = grind (arith, nat_tests, before_differs xs ys)

pub before_then : (a b c : List ℕ) → is_before a b ≡ true → is_before b c ≡ true → is_before a c ≡ true
before_then a b [] first second = absurd (grind (arith, second))
before_then a [] (z ∷ zs) first second = absurd (grind (arith, first))
before_then [] (y ∷ ys) (z ∷ zs) first second = refl
before_then (x ∷ xs) (y ∷ ys) (z ∷ zs) first second = grind (arith, nat_tests, before_then xs ys zs)

-- one of two keys comes before the other, if they differ
pub other_before : (a b : List ℕ) → is_before a b ≡ false → is_same b a ≡ false → is_before b a ≡ true
other_before [] [] not_before differ = absurd (grind (arith, differ))
other_before [] (y ∷ ys) not_before differ = absurd (grind (arith, not_before))
other_before (x ∷ xs) [] not_before differ = refl
other_before (x ∷ xs) (y ∷ ys) not_before differ = grind (arith, nat_tests, other_before xs ys)
