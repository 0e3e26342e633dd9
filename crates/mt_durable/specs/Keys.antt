-- The order of keys, which are strings of bytes.
use Rattle.std.specs.Prelude.{ℕ, ◌==◌, ◌&&◌, ◌||◌, nat_lt, Bool, true, false, List, [], ◌∷◌}

-- byte by byte; a key comes before those that it begins
abbrev pub is_before : List ℕ → List ℕ → Bool
is_before key [] = false
is_before [] (next ∷ others) = true
is_before (first ∷ rest) (next ∷ others) = nat_lt first next || (first == next && is_before rest others)

abbrev pub is_same : List ℕ → List ℕ → Bool
is_same [] [] = true
is_same [] (next ∷ others) = false
is_same (first ∷ rest) [] = false
is_same (first ∷ rest) (next ∷ others) = first == next && is_same rest others
