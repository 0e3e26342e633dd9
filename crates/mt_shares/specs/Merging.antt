-- What several threads got of one book, put together again.
use Rattle.std.specs.Prelude.{◌≡◌, ◌≤◌, ◌<◌, ◌==◌, ℕ, zero, suc, Bool, List, [], ◌∷◌, ◌++◌, filter, map, ⊤}
use mathlib.Core.Option.{some}
use lib.ListN.{get_elem?}
use Rattle.mt_turn.specs.Counts.{how_often, total}

-- the numbers below this one, in their order
abbrev pub upto : ℕ → List ℕ
upto zero = []
upto (suc n) = upto n ++ n ∷ []

-- each of these
abbrev pub Each : {A : Type 0} → (A → Type 0) → List A → Type 0
Each Holds [] = ⊤
Each Holds (x ∷ xs) = Holds x × Each Holds xs

-- Items stand at places, and are of threads.
module _ {A : Type 0} (place : A → ℕ) (thread : A → ℕ) where
  -- the places rise strictly, from this one on
  abbrev pub RiseFrom : ℕ → List A → Type 0
  RiseFrom from [] = ⊤
  RiseFrom from (x ∷ xs) = (from ≤ place x) × RiseFrom (suc (place x)) xs

  -- how often a place stands among those of these items
  abbrev pub times_in : ℕ → List A → ℕ
  times_in k xs = how_often k (map place xs)

  -- Each list is that of the thread of its number, its places rise, and together they have each place below this one once and no other.
  pub record AreShares (count : ℕ) (lists : List (List A)) : Type 0 where
    pub once : (k : ℕ) → k < count → total (times_in k) lists ≡ 1
    pub no_other : (k : ℕ) → count ≤ k → total (times_in k) lists ≡ 0
    pub rise : (j : ℕ) (xs : List A) → get_elem? lists j ≡ some xs → RiseFrom 0 xs
    pub own : (j : ℕ) (xs : List A) → get_elem? lists j ≡ some xs → Each (λ (x : A). thread x ≡ j) xs

  abbrev pub is_of_thread : ℕ → A → Bool
  is_of_thread j x = thread x == j

  -- All items in the order of their places; each list is what there is of its thread.
  pub record IsMerged (count : ℕ) (lists : List (List A)) (all : List A) : Type 0 where
    pub places : map place all ≡ upto count
    pub shares : (j : ℕ) (xs : List A) → get_elem? lists j ≡ some xs → xs ≡ filter (is_of_thread j) all

  abbrev pub Merged : ℕ → List (List A) → Type 0
  Merged count lists = (all : List A) × IsMerged count lists all
