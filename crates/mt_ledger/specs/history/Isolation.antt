-- What of a history is a fabric's own, what is public, and the history that is built of both.
use Rattle.std.specs.Prelude.{ℕ, ◌==◌, List, slice_set, if◌then◌else◌}
use Rattle.mt_model.specs.declared.messages.message.Happened.{Happened}
use Rattle.mt_events.specs.Rings.{empty, ring_of}
use Rattle.mt_events.specs.Telling.{own_of}
use Rattle.mt_ledger.specs.history.History.{History}

-- the events that are private to it
abbrev pub own_events : ℕ → History → List Happened
own_events fabric h = own_of fabric h.rings

-- Public are the events that all may see, and the number of the next one.
pub record Recent : Type 0 where
  pub shared : List Happened
  pub next : ℕ

abbrev pub recent : History → Recent
recent h = record { shared = ring_of 0 h.rings; next = h.numbers.next }

-- Others' private events are none, and the ceiling is the next number.

abbrev pub veiled_rings : ℕ → List Happened → List Happened → List (List Happened)
veiled_rings fabric own shared = if fabric == 0 then slice_set empty 0 shared else slice_set (slice_set empty 0 shared) fabric own

abbrev pub seen_history : ℕ → List Happened → Recent → History
seen_history fabric own r = record { rings = veiled_rings fabric own r.shared; numbers = record { next = r.next; ceiling = r.next } }

abbrev pub veiled_history : ℕ → History → History
veiled_history fabric h = seen_history fabric (own_events fabric h) (recent h)
