-- Sums over a list in which one item changes, and counts of numbers.
use Rattle.std.proofs.Common.{◌≡◌, ◌≢◌, ℕ, zero, suc, ◌+◌, ◌<◌, ◌≤◌, List, [], ◌∷◌, ◌++◌, set, sym, refl, ap, arith, cond, eq-eqb, ne_eqb}
use mathlib.Core.Logic.{dite}
use mathlib.Core.Option.{some, some-injective, some-ne-none}
use native.Mathlib.Decide.{ℕ_discrete}
use lib.ListN.{get_elem?}
use Rattle.mt_turn.specs.Counts.{total, is_it, how_often, once_below}

module _ {A : Type 0} (f : A → ℕ) where
  pub total-append : (xs ys : List A) → total f (xs ++ ys) ≡ total f xs + total f ys
  total-append [] ys = omega arith
  total-append (x ∷ xs) ys = omega (arith, total-append xs ys)

  -- one item is replaced
  pub total-set : (xs : List A) (j : ℕ) (old new : A) → get_elem? xs j ≡ some old → total f (set xs j new) + f old ≡ total f xs + f new
  total-set [] j old new at = absurd (some-ne-none old (sym at))
  total-set (x ∷ xs) zero old new at = omega (arith, ap f (some-injective x old at))
  total-set (x ∷ xs) (suc j) old new at = omega (arith, total-set xs j old new at)

  pub one-le-total : (xs : List A) (j : ℕ) (x : A) → get_elem? xs j ≡ some x → f x ≤ total f xs
  one-le-total [] j x at = absurd (some-ne-none x (sym at))
  one-le-total (y ∷ ys) zero x at = omega (arith, ap f (some-injective y x at))
  one-le-total (y ∷ ys) (suc j) x at = omega (arith, one-le-total ys j x at)

  -- two places
  pub two-le-total : (xs : List A) (j k : ℕ) (x y : A) → k ≢ j → get_elem? xs j ≡ some x → get_elem? xs k ≡ some y → f x + f y ≤ total f xs
  two-le-total [] j k x y apart at there = absurd (some-ne-none x (sym at))
  two-le-total (z ∷ zs) zero zero x y apart at there = absurd (apart refl)
  two-le-total (z ∷ zs) zero (suc k) x y apart at there = omega (arith, ap f (some-injective z x at), one-le-total zs k y there)
  two-le-total (z ∷ zs) (suc j) zero x y apart at there = omega (arith, ap f (some-injective z y there), one-le-total zs j x at)
  two-le-total (z ∷ zs) (suc j) (suc k) x y apart at there = omega (arith, two-le-total zs j k x y (λ e. apart (ap suc e)) at there)

  -- a sum that is not 0 has an item that is not
  pub some_item : (xs : List A) → 0 < total f xs → (j : ℕ) × (x : A) × (get_elem? xs j ≡ some x) × (0 < f x)
  some_item [] more = absurd (omega arith)
  some_item (x ∷ xs) more = dite (ℕ_discrete (f x) 0) (λ z. let t = some_item xs (omega arith) in (suc t.0, t.1, t.2, t.3)) (λ n. (0, x, refl, omega arith))

  all_zero : (xs : List A) → ((k : ℕ) (y : A) → get_elem? xs k ≡ some y → f y ≡ 0) → total f xs ≡ 0
  all_zero [] none = refl
  all_zero (x ∷ xs) none = omega (arith, none 0 x refl, all_zero xs (λ k y at. none (suc k) y at))

  -- all items but one are 0
  pub the_only : (xs : List A) (j : ℕ) (x : A) → get_elem? xs j ≡ some x → ((k : ℕ) (y : A) → k ≢ j → get_elem? xs k ≡ some y → f y ≡ 0) → total f xs ≡ f x
  the_only [] j x at none = absurd (some-ne-none x (sym at))
  the_only (y ∷ ys) zero x at none = omega (arith, ap f (some-injective y x at), all_zero ys (λ k z there. none (suc k) z (λ e. omega arith) there))
  the_only (y ∷ ys) (suc j) x at none = omega (arith, none 0 y (λ e. omega arith) refl, the_only ys j x at (λ k z apart there. none (suc k) z (λ e. apart (omega arith)) there))

pub total-le : {A : Type 0} (f g : A → ℕ) (xs : List A) → ((j : ℕ) (x : A) → get_elem? xs j ≡ some x → f x ≤ g x) → total f xs ≤ total g xs
total-le f g [] less = omega arith
total-le f g (x ∷ xs) less = omega (arith, less 0 x refl, total-le f g xs (λ j y at. less (suc j) y at))

pub is_it-other : (k x : ℕ) → x ≢ k → is_it k x ≡ 0
is_it-other k x other = ap (λ b. cond b 1 0) (ne_eqb x k other)

pub once_below-beyond : (k bound : ℕ) → bound ≤ k → once_below k bound ≡ 0
once_below-beyond k zero le = refl
once_below-beyond k (suc bound) le = omega (arith, is_it-other k bound (λ e. omega arith), once_below-beyond k bound (omega arith))

pub once_below-within : (k bound : ℕ) → k < bound → once_below k bound ≡ 1
once_below-within k zero less = absurd (omega arith)
once_below-within k (suc bound) less = dite (ℕ_discrete bound k)
    (λ e. let here : is_it k bound ≡ 1 = ap (λ b. cond b 1 0) (eq-eqb bound k e) in omega (arith, once_below-beyond k bound (omega arith)))
    (λ other. omega (arith, is_it-other k bound other, once_below-within k bound (omega arith)))

pub how_often-push : (k x : ℕ) (xs : List ℕ) → how_often k (xs ++ x ∷ []) ≡ how_often k xs + is_it k x
how_often-push k x xs = omega (arith, total-append (is_it k) xs (x ∷ []))
