-- What contracts see of a pass, and what the calls make of it.
use Rattle.std.specs.Prelude.{◌≡◌, ℕ, ◌+◌, ◌-◌, ◌⊎◌, ◌∷◌, ◌++◌, cond, Bool, true, false, nat_lt, List, [], Option, Some, length}
use Rattle.atomic_table.specs.Seated.{TableId}

-- The lock that it is for; whether it is inside, and the book that it found there (none outside); the list that
-- it has seen; the places of its own calls and of those that it took over; its share; the origin of the lock's value.
pub record Known (E O : Type 0) : Type 0 where
  pub lock : TableId
  pub inside : Bool
  pub found : List E
  pub seen : List E
  pub places : List ℕ
  pub share : ℕ
  pub origin : Option O

module _ {E : Type 0} where
  -- the book is the one that was found, or has one entry more
  abbrev pub GrowsByOne : List E → List E → Type 0
  GrowsByOne found book = (book ≡ found) ⊎ ((entry : E) × (book ≡ found ++ entry ∷ []))

  -- the places after a turn: one more where the book grew
  abbrev pub places_after : List E → List E → List ℕ → List ℕ
  places_after found book places = cond (nat_lt (length found) (length book)) (places ++ length found ∷ []) places

  abbrev pub longer : List E → List E → List E
  longer xs ys = cond (nat_lt (length xs) (length ys)) ys xs

  abbrev pub shorter : List E → List E → List E
  shorter xs ys = cond (nat_lt (length xs) (length ys)) xs ys

module _ {E O : Type 0} where
  -- the first pass of a lock
  abbrev pub first_pass : TableId → O → Known E O
  first_pass lock origin = record { lock = lock; inside = false; found = []; seen = []; places = []; share = 64; origin = Some origin }

  -- inside, where it found this book
  abbrev pub entered : Known E O → List E → Known E O
  entered p book = record p { inside = true; found = book }

  -- outside again, after a turn that left this book
  abbrev pub left : Known E O → List E → Known E O
  left p book = record p { inside = false; found = []; seen = book; places = places_after p.found book p.places }

  -- what stays with the pass that is split
  abbrev pub part_kept : Known E O → Known E O
  part_kept p = record p { share = p.share - 1 }

  -- the new pass
  abbrev pub part_given : Known E O → Known E O
  part_given p = record p { places = []; share = 1 }

  -- the pass that took in another
  abbrev pub joined : Known E O → Known E O → Known E O
  joined p q = record p { seen = longer p.seen q.seen; places = p.places ++ q.places; share = p.share + q.share }
