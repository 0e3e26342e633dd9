-- How many lines the record of a served node has, whatever the statuses with which its threads ended.
use Rattle.std.specs.Prelude.{◌≤◌, ◌*◌, List, All, filter, length, ⊤}
use Rattle.mt_model.specs.declared.texts.recording.Event.{Event}
use Rattle.mt_model.specs.declared.texts.recording.Event.TheVariants as events
use Rattle.mt_outside.specs.declared.network.Arrival.{Arrival}
use Rattle.mt_rounds.specs.mt_shared.Book.{lines_in}
use Rattle.mt_rounds.specs.mt_shared.Entry.{Entry}
use Rattle.mt_rounds.specs.mt_worker.Few.{is_datagram}

-- A line is of a datagram, or of a step; nobody asks in plain, and nobody tells of a stop.
abbrev pub IsServedLine : Event → Type 0
IsServedLine (events.Datagram ms peer bytes) = ⊤
IsServedLine (events.Resend ms session) = ⊤
IsServedLine (events.Report ms fabric subscription) = ⊤
IsServedLine (events.Tick ms) = ⊤
IsServedLine event = ⊥

-- For each answer of the intake the book has at most one line of a datagram; and at the wake that it may bring, four over each of 64 sessions, and a time step.
pub record HasFewLines (book : List Entry) (arrivals : List Arrival) : Type 0 where
  pub all : length (lines_in book) ≤ 258 * length arrivals
  pub datagrams : length (filter is_datagram (lines_in book)) ≤ length arrivals
  pub kinds : All IsServedLine (lines_in book)
