-- What one history is: every call stands in one book, and is answered as one thread is that makes the calls of the
-- book one after the other.
use Rattle.std.specs.Prelude.{◌≡◌, ℕ, ◌<◌, ◌⊎◌, ◌∷◌, ◌++◌, false, List, [], length}
use mathlib.Core.List.{IsPrefix}
use Rattle.mt_turn.specs.Counts.{how_often}
use Rattle.mt_turn.specs.Known.{Known}

module _ {E O : Type 0} where
  -- a turn leaves the lock, the share and the origin, and the pass is outside
  abbrev pub IsOutsideAgain : Known E O → Known E O → Type 0
  IsOutsideAgain old new = (new.lock ≡ old.lock) × (new.inside ≡ false) × (new.share ≡ old.share) × (new.origin ≡ old.origin)

  -- One turn recorded this entry. The book that it found begins with all that the pass had seen. The entry stands
  -- behind it, at a place that is above all places of the pass and becomes one of them.
  pub record IsRecorded (old new : Known E O) (entry : E) : Type 0 where
    pub found : List E
    pub begins : IsPrefix old.seen found
    pub seen : new.seen ≡ found ++ entry ∷ []
    pub place : new.places ≡ old.places ++ length found ∷ []
    pub above : (k : ℕ) → 0 < how_often k old.places → k < length found

-- An answer to a call: an entry of the book is of the call, and the answer is the one that the calls up to it give,
-- made one after the other from the origin.
module _ {E O C A : Type 0} (is_of : C → E → Type 0) (answer_at : O → List E → A) where
  -- the first call, then the second, and none else
  pub record InThisOrder (origin : O) (book : List E) (first second : C) (a b : A) : Type 0 where
    pub one : E
    pub two : E
    pub book_is : book ≡ one ∷ two ∷ []
    pub of_first : is_of first one
    pub of_second : is_of second two
    pub first_answer : a ≡ answer_at origin (one ∷ [])
    pub second_answer : b ≡ answer_at origin (one ∷ two ∷ [])

  -- two calls and no others were made, in the one order or in the other
  abbrev pub InOneOrder : O → List E → C → C → A → A → Type 0
  InOneOrder origin book first second a b = InThisOrder origin book first second a b ⊎ InThisOrder origin book second first b a
