-- Lists in which one item is another, and what is counted in them.
use Rattle.std.proofs.Common.{◌≡◌, ◌≢◌, ◌∙◌, ℕ, zero, suc, ◌+◌, ◌<◌, ◌≤◌, List, [], ◌∷◌, ◌++◌, set, sym, refl, ap, arith}
use mathlib.Core.Logic.{dite}
use mathlib.Core.Option.{some, some-injective, some-ne-none}
use native.Mathlib.Decide.{ℕ_discrete}
use lib.ListN.{get_elem?}
use Rattle.mt_turn.specs.Counts.{total}

module _ {A : Type 0} where
  pub set_here : (xs : List A) (j : ℕ) (old new : A) → get_elem? xs j ≡ some old → get_elem? (set xs j new) j ≡ some new
  set_here [] j old new at = absurd (some-ne-none old (sym at))
  set_here (y ∷ ys) zero old new at = refl
  set_here (y ∷ ys) (suc j) old new at = set_here ys j old new at

  pub set_same : (xs : List A) (j : ℕ) (old new x : A) → get_elem? xs j ≡ some old → get_elem? (set xs j new) j ≡ some x → x ≡ new
  set_same xs j old new x at there = some-injective x new (sym there ∙ set_here xs j old new at)

  pub set_other : (xs : List A) (i j : ℕ) (new : A) → i ≢ j → get_elem? (set xs j new) i ≡ get_elem? xs i
  set_other [] i j new apart = refl
  set_other (y ∷ ys) zero zero new apart = absurd (apart refl)
  set_other (y ∷ ys) (suc i) zero new apart = refl
  set_other (y ∷ ys) zero (suc j) new apart = refl
  set_other (y ∷ ys) (suc i) (suc j) new apart = set_other ys i j new (λ e. apart (ap suc e))

  pub same_at : (xs : List A) (i j : ℕ) (x y : A) → i ≡ j → get_elem? xs j ≡ some x → get_elem? xs i ≡ some y → y ≡ x
  same_at xs i j x y is at there = some-injective y x (sym there ∙ ap (get_elem? xs) is ∙ at)

  module _ (f : A → ℕ) where
    pub counted : (xs ys : List A) → total f (xs ++ ys) ≡ total f xs + total f ys
    counted [] ys = omega arith
    counted (x ∷ xs) ys = omega (arith, counted xs ys)

    pub recounted : (xs : List A) (j : ℕ) (old new : A) → get_elem? xs j ≡ some old → total f (set xs j new) + f old ≡ total f xs + f new
    recounted [] j old new at = absurd (some-ne-none old (sym at))
    recounted (x ∷ xs) zero old new at = omega (arith, ap f (some-injective x old at))
    recounted (x ∷ xs) (suc j) old new at = omega (arith, recounted xs j old new at)

    -- one of them counts no more than all
    pub one_of_all : (xs : List A) (j : ℕ) (x : A) → get_elem? xs j ≡ some x → f x ≤ total f xs
    one_of_all [] j x at = absurd (some-ne-none x (sym at))
    one_of_all (y ∷ ys) zero x at = omega (arith, ap f (some-injective y x at))
    one_of_all (y ∷ ys) (suc j) x at = omega (arith, one_of_all ys j x at)

    -- where all count something one of them does
    pub some_counts : (xs : List A) → 0 < total f xs → (j : ℕ) × (x : A) × (get_elem? xs j ≡ some x) × (0 < f x)
    some_counts [] more = absurd (omega arith)
    some_counts (x ∷ xs) more = dite (ℕ_discrete (f x) 0) (λ z. let rest = some_counts xs (omega arith) in (suc rest.0, rest.1, rest.2, rest.3)) (λ n. (0, x, refl, omega arith))
