-- What a window is kept for: a start, and the list of all counters accepted since, which nothing stores.
use Rattle.std.specs.Prelude.{◌≡◌, ◌≤◌, ◌+◌, ◌-◌, ℕ, Bool, List, nat_eq}
use Rattle.std.specs.Int.{bit_at}
use Rattle.mt_window.specs.declared.window.Window.{Window}
use Rattle.mt_window.specs.Counters.{greatest_of, reach, was_accepted}

-- whether the window has a mark for a counter that is not above its greatest
abbrev pub has_mark : Window → ℕ → Bool
has_mark window counter = nat_eq (bit_at window.marks (window.greatest - counter)) 1

-- The window has the greatest of the start and of all accepted counters, and of each counter that is not
-- too far below it, whether it was accepted.
pub record StandsFor (window : Window) (start : ℕ) (accepted : List ℕ) : Type 0 where
  pub greatest : window.greatest ≡ greatest_of start accepted
  pub marks : (counter : ℕ) → counter ≤ window.greatest → window.greatest ≤ counter + reach
      → has_mark window counter ≡ was_accepted accepted counter
