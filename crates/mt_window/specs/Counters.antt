-- What is answered of a message counter (Matter Core Specification, section 4.5, Message Counters), over
-- the list of all counters that were accepted before it. Nothing rolls over.
use Rattle.std.specs.Prelude.{ℕ, ◌+◌, max, Bool, List, [], ◌∷◌, ◌++◌, fold, nat_eq, nat_lt, if◌then◌else◌}
use Rattle.std.specs.List.{list_any}
use Rattle.mt_window.specs.declared.window.Seen.{Seen}
use Rattle.mt_window.specs.declared.window.Seen.TheVariants.{Fresh, Duplicate, Old}

-- how far below the greatest a counter is still looked up: MSG_COUNTER_WINDOW_SIZE
abbrev pub reach : ℕ
reach = 32

-- the greatest of the start and of all accepted counters
abbrev pub greatest_of : ℕ → List ℕ → ℕ
greatest_of start accepted = fold max start accepted

-- whether a counter is among those that were accepted
abbrev pub was_accepted : List ℕ → ℕ → Bool
was_accepted accepted counter = list_any (nat_eq counter) accepted

-- A counter above the greatest is new. One too far below it is not looked up. Any other is a duplicate
-- exactly where it was accepted; the start itself was not, until it is.
abbrev pub seen : ℕ → List ℕ → ℕ → Seen
seen start accepted counter =
    if nat_lt (greatest_of start accepted) counter then Fresh
    else if nat_lt (counter + reach) (greatest_of start accepted) then Old
    else if was_accepted accepted counter then Duplicate
    else Fresh

-- all accepted counters once a counter was answered so: it is added where it is Fresh
abbrev pub accepted_by : Seen → List ℕ → ℕ → List ℕ
accepted_by Fresh accepted counter = accepted ++ counter ∷ []
accepted_by Duplicate accepted counter = accepted
accepted_by Old accepted counter = accepted

-- all accepted counters once a further counter has come
abbrev pub accepted_after : ℕ → List ℕ → ℕ → List ℕ
accepted_after start accepted counter = accepted_by (seen start accepted counter) accepted counter

-- all accepted counters once further counters have come, one after the other
abbrev pub accepted_over : ℕ → List ℕ → List ℕ → List ℕ
accepted_over start accepted [] = accepted
accepted_over start accepted (counter ∷ counters) =
    accepted_over start (accepted_after start accepted counter) counters
