-- Images and changes that are made up for the cases.
use Rattle.std.specs.Prelude.{ℕ, Bool, false, ◌==◌, ◌&&◌, ◌||◌, List, [], ◌∷◌, length}

abbrev pub is_image : List ℕ → Bool
is_image [] = false
is_image (first ∷ rest) = first == 0x16

-- a change that may follow each list
abbrev pub is_change : List ℕ → Bool
is_change [] = false
is_change (first ∷ rest) = first == 0x16 || first == 0x17

-- one that may follow a list of one piece alone
abbrev pub is_second : List ℕ → Bool
is_second [] = false
is_second (first ∷ rest) = first == 0x19

abbrev pub may_follow : List (List ℕ) → List ℕ → Bool
may_follow list bytes = is_change bytes || (is_second bytes && (length list == 1))
