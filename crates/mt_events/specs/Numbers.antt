-- The numbers of events: they rise over all events, and a start goes on at the ceiling that was stored last.
use Rattle.std.specs.Prelude.{ℕ, ◌+◌, nat_lt, if◌then◌else◌}
use Rattle.mt_events.specs.declared.numbers.Numbers.{Numbers}

-- a start, where this ceiling was stored
abbrev pub begun : ℕ → Numbers
begun ceiling = record { next = ceiling; ceiling = ceiling + 1024 }

-- an event takes the next number; one that reaches the ceiling raises it
abbrev pub taken : Numbers → Numbers
taken numbers = record { next = numbers.next + 1; ceiling = if nat_lt numbers.next numbers.ceiling then numbers.ceiling else numbers.ceiling + 1024 }
