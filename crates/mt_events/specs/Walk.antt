-- The events behind a place in both of two rings, and the first of them.
use Rattle.std.specs.Prelude.{◌≡◌, ℕ, ◌+◌, ◌≤◌, List, [], ◌∷◌, drop, length, Option, Some, None}
use Rattle.std.specs.Borrow.{Bor}
use Rattle.mt_events.specs.Rings.{ring_of}
use Rattle.mt_events.specs.Telling.{merged, own_of}
use Rattle.mt_events.specs.declared.telling.At.{At}
use Rattle.mt_model.specs.declared.messages.message.Happened.{Happened}

-- what a fabric may be told from these places on
abbrev pub behind : ℕ → List (List Happened) → At → List Happened
behind fabric rings at = merged (drop at.shared (ring_of 0 rings)) (drop at.own (own_of fabric rings))

-- neither place is behind the end of its ring
pub record IsWithin (fabric : ℕ) (rings : List (List Happened)) (at : At) : Type 0 where
  pub shared : at.shared ≤ length (ring_of 0 rings)
  pub own : at.own ≤ length (own_of fabric rings)

-- the first event from these places on, and the places of those behind it
pub record IsNext (fabric : ℕ) (rings : List (List Happened)) (at : At) (event : Bor Happened) (next : At) : Type 0 where
  pub first : behind fabric rings at ≡ event.now ∷ behind fabric rings next
  pub further : next.shared + next.own ≡ at.shared + at.own + 1
  pub within : IsWithin fabric rings next

-- there is a first one, or there is none
abbrev pub IsFirst : ℕ → List (List Happened) → At → Option (Bor Happened × At) → Type 0
IsFirst fabric rings at None = behind fabric rings at ≡ []
IsFirst fabric rings at (Some found) = IsNext fabric rings at found.0 found.1
