-- What the calls of a thread got: each stands at a place of the one book, which tells the entry there with its answer.
use Rattle.std.specs.Prelude.{◌≡◌, ◌≤◌, ℕ, suc, List, [], ◌∷◌, ◌++◌, Some, length, map, slice_get, ⊤}
use mathlib.Core.List.{IsPrefix}
use Rattle.mt_layer.specs.mt_interactions.Configured.{ConfiguredInteractions}
use Rattle.mt_layer.specs.mt_shared.Replay.{told}
use Rattle.mt_layer.specs.mt_shared.Shared.{NodePass}
use Rattle.mt_layer.specs.mt_shared.Answer.{Answer}
use Rattle.mt_layer.specs.mt_shared.Entry.{Entry}
use Rattle.mt_turn.specs.History.{IsOutsideAgain}

-- each of these
abbrev pub Each : {A : Type 0} → (A → Type 0) → List A → Type 0
Each Holds [] = ⊤
Each Holds (x ∷ xs) = Holds x × Each Holds xs

-- an entry of the book, with what the replay answers there
abbrev pub Told : Type 0
Told = Entry × Answer

-- one call: the place of its entry, the session over which it was made (0 for a time step), and what the book tells there
pub record Got : Type 0 where
  pub place : ℕ
  pub session : ℕ
  pub told : Told

abbrev pub place_of : Got → ℕ
place_of got = got.place

-- each stands at its place of what is told
abbrev pub AreTold : List Told → List Got → Type 0
AreTold tolds [] = ⊤
AreTold tolds (got ∷ gots) = (slice_get tolds got.place ≡ Some got.told) × AreTold tolds gots

-- the places rise, from this one on and below that
abbrev pub Rise : ℕ → ℕ → List Got → Type 0
Rise from below [] = from ≤ below
Rise from below (got ∷ gots) = (from ≤ got.place) × Rise (suc got.place) below gots

-- THE PASS of a thread went on, and got these: they are its new places, which rise strictly and lie behind all that it had seen.
pub record Goes (before after : NodePass) (gots : List Got) : Type 0 where
  pub outside : IsOutsideAgain before after
  pub grows : IsPrefix before.seen after.seen
  pub places : after.places ≡ before.places ++ map place_of gots
  pub told_are : (origin : ConfiguredInteractions) → before.origin ≡ Some origin → AreTold (told origin after.seen) gots
  pub rise : Rise (length before.seen) (length after.seen) gots
