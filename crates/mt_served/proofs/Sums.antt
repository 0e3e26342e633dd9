-- Sums over the numbers below one, and how many items of a list pass a test.
use Rattle.std.proofs.Common.{◌≡◌, ◌≢◌, ◌∙◌, refl, sym, ap, ℕ, zero, suc, ◌+◌, ◌*◌, ◌<◌, ◌≤◌, ◌==◌, Bool, true, false, cond, List, [], ◌∷◌, filter, length, arith, eq-eqb, ne_eqb}
use Rattle.std.proofs.Math.Nat.{add-mul}
use mathlib.Core.Logic.{dite}
use native.Mathlib.Decide.{ℕ_discrete}

-- SUMS

abbrev pub sum_below : ℕ → (ℕ → ℕ) → ℕ
sum_below zero f = 0
sum_below (suc n) f = sum_below n f + f n

pub sums_most : (n : ℕ) (f g : ℕ → ℕ) → ((j : ℕ) → j < n → f j ≤ g j) → sum_below n f ≤ sum_below n g
sums_most zero f g each = omega arith
sums_most (suc n) f g each =
    let before = sums_most n f g (λ j less. each j (omega (arith, less))) in
    let last = each n (omega arith) in
    omega (arith, before, last)

pub sums_add : (n : ℕ) (f g : ℕ → ℕ) → sum_below n (λ j. f j + g j) ≡ sum_below n f + sum_below n g
sums_add zero f g = omega arith
sums_add (suc n) f g = let before = sums_add n f g in omega (arith, before)

pub sums_none : (n : ℕ) → sum_below n (λ j. 0) ≡ 0
sums_none zero = refl
sums_none (suc n) = let before = sums_none n in omega (arith, before)

pub sums_times : (n : ℕ) (f : ℕ → ℕ) (k : ℕ) → sum_below n (λ j. f j * k) ≡ sum_below n f * k
sums_times zero f k = omega arith
sums_times (suc n) f k = ap (λ (m : ℕ). m + f n * k) (sums_times n f k) ∙ sym (add-mul (sum_below n f) (f n) k)

pub sums_four : (n : ℕ) (f : ℕ → ℕ) → sum_below n (λ j. 4 * f j) ≡ 4 * sum_below n f
sums_four zero f = omega arith
sums_four (suc n) f = let before = sums_four n f in omega (arith, before)

-- what stands at one number alone

abbrev pub only_at : ℕ → ℕ → ℕ → ℕ
only_at k at j = cond (at == j) k 0

nothing_at : (k at j : ℕ) → at ≢ j → only_at k at j ≡ 0
nothing_at k at j other = ap (λ (b : Bool). cond b k 0) (ne_eqb at j other)

all_at : (k at j : ℕ) → at ≡ j → only_at k at j ≡ k
all_at k at j same = ap (λ (b : Bool). cond b k 0) (eq-eqb at j same)

none_below : (n k at : ℕ) → n ≤ at → sum_below n (only_at k at) ≡ 0
none_below zero k at above = refl
none_below (suc n) k at above =
    let before = none_below n k at (omega (arith, above)) in
    let last = nothing_at k at n (λ same. absurd (omega (arith, above, same))) in
    omega (arith, before, last)

pub once_at : (n k at : ℕ) → at < n → sum_below n (only_at k at) ≡ k
once_at zero k at less = absurd (omega (arith, less))
once_at (suc n) k at less = dite (ℕ_discrete at n)
    (λ same. let before = none_below n k at (omega (arith, same)) in let last = all_at k at n same in omega (arith, before, last))
    (λ other. let before = once_at n k at (omega (arith, less, other)) in let last = nothing_at k at n other in omega (arith, before, last))

pub once_most : (n k at : ℕ) → sum_below n (only_at k at) ≤ k
once_most zero k at = omega arith
once_most (suc n) k at = dite (ℕ_discrete at n)
    (λ same. let before = none_below n k at (omega (arith, same)) in let last = all_at k at n same in omega (arith, before, last))
    (λ other. let before = once_most n k at in let last = nothing_at k at n other in omega (arith, before, last))

-- COUNTS

abbrev pub one_if : Bool → ℕ
one_if b = cond b 1 0

pub count_more : {A : Type 0} (p : A → Bool) (x : A) (xs : List A) → length (filter p (x ∷ xs)) ≡ one_if (p x) + length (filter p xs)
count_more {A = A} p x xs = by (p x)
  where
    by : (b : Bool) → length (cond b (x ∷ filter p xs) (filter p xs)) ≡ cond b 1 0 + length (filter p xs)
    by true = omega arith
    by false = omega arith

-- what passes one test, passes another that it implies
pub one_most : (b c : Bool) → (b ≡ true → c ≡ true) → one_if b ≤ one_if c
one_most true true implies = omega arith
one_most true false implies = let no = implies refl in absurd (cc)
one_most false c implies = omega arith

pub counts_most : {A : Type 0} (p q : A → Bool) → ((x : A) → p x ≡ true → q x ≡ true) → (xs : List A) → length (filter p xs) ≤ length (filter q xs)
counts_most p q implies [] = omega arith
counts_most p q implies (x ∷ xs) =
    let first = one_most (p x) (q x) (implies x) in
    let rest = counts_most p q implies xs in
    omega (arith, first, rest, count_more p x xs, count_more q x xs)

-- SHARES. Where each item is of one number below this one, what passes a test is counted by number.
module _ {A : Type 0} (thread : A → ℕ) where
  abbrev pub its : ℕ → List A → List A
  its j xs = filter (λ (x : A). thread x == j) xs

  share_more : (p : A → Bool) (j : ℕ) (x : A) (xs : List A) → only_at (one_if (p x)) (thread x) j + length (filter p (its j xs)) ≤ length (filter p (its j (x ∷ xs)))
  share_more p j x xs = by (thread x == j)
    where
      by : (b : Bool) → cond b (one_if (p x)) 0 + length (filter p (its j xs)) ≤ length (filter p (cond b (x ∷ its j xs) (its j xs)))
      by true = omega (arith, count_more p x (its j xs))
      by false = omega arith

  pub counted_by_thread : (n : ℕ) (p : A → Bool) → ((x : A) → thread x < n) → (xs : List A) → length (filter p xs) ≤ sum_below n (λ j. length (filter p (its j xs)))
  counted_by_thread n p below [] = omega arith
  counted_by_thread n p below (x ∷ xs) =
      let first = once_at n (one_if (p x)) (thread x) (below x) in
      let rest = counted_by_thread n p below xs in
      let both = sums_add n (only_at (one_if (p x)) (thread x)) (λ j. length (filter p (its j xs))) in
      let more = sums_most n (λ j. only_at (one_if (p x)) (thread x) j + length (filter p (its j xs))) (λ j. length (filter p (its j (x ∷ xs)))) (λ j less. share_more p j x xs) in
      omega (arith, first, rest, both, more, count_more p x xs)
