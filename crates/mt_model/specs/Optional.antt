-- Numbers that may be missing, against one that is there.
use Rattle.std.specs.Prelude.{ℕ, ◌==◌, Bool, true, false, Option, Some, None}

-- whether the number is the one that a path or a target wants; where none is wanted, every number fits
abbrev pub fits : Option ℕ → ℕ → Bool
fits None number = true
fits (Some wanted) number = wanted == number

-- whether it is there, and this one
abbrev pub is_that : ℕ → Option ℕ → Bool
is_that number None = false
is_that number (Some other) = other == number
