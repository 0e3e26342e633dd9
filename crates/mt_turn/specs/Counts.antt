-- Counting in lists of numbers.
use Rattle.std.specs.Prelude.{ℕ, zero, suc, ◌+◌, cond, eqb, List, [], ◌∷◌}

-- what f gives of each item, added up
abbrev pub total : {A : Type 0} → (A → ℕ) → List A → ℕ
total f [] = 0
total f (x ∷ xs) = f x + total f xs

-- 1 where the second number is the first, else 0
abbrev pub is_it : ℕ → ℕ → ℕ
is_it k x = cond (eqb x k) 1 0

-- how often a number stands in a list
abbrev pub how_often : ℕ → List ℕ → ℕ
how_often k xs = total (is_it k) xs

-- how often a number stands among those below the bound: once, or not at all
abbrev pub once_below : ℕ → ℕ → ℕ
once_below k zero = 0
once_below k (suc bound) = is_it k bound + once_below k bound
