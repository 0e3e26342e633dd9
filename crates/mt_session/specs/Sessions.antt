-- What a session stands for: its row, all messages that it let in and all messages that it sealed, in lists
-- that nothing stores.
use Rattle.std.specs.Prelude.{◌≡◌, ◌≢◌, ℕ, ◌+◌, nat_lt, ◌==◌, List, [], ◌∷◌, ◌++◌, map, length, Option, Some, None, Result, Ok, Err, if◌then◌else◌}
use Rattle.mt_frame.specs.declared.header.ProtocolHeader.{ProtocolHeader}
use Rattle.mt_window.specs.Standing.{StandsFor as IsWindowOf}
use Rattle.mt_model.specs.declared.limits.TheConstants.{LAST_COUNTER, SENT_BYTES}
use Rattle.mt_model.specs.declared.texts.config.SessionRow.{SessionRow}
use Rattle.mt_session.specs.declared.opening.Dropped.{Dropped}
use Rattle.mt_session.specs.declared.fault.SealFault.{SealFault}
use Rattle.mt_session.specs.declared.fault.SealFault.TheVariants.{Exhausted, TooLong}
use Rattle.mt_session.specs.declared.kept.Session.{Session}
use Rattle.mt_session.specs.Datagrams.{datagram, datagram_length}
use Rattle.mt_session.specs.Opening.{Arrival}

-- A message that was sealed.
pub record Message : Type 0 where
  pub header : ProtocolHeader
  pub payload : List ℕ

-- the counters that were let in
abbrev pub counters : List Arrival → List ℕ
counters arrivals = map (λ a. a.counter) arrivals

-- the counter of the next message: each takes one
abbrev pub next_counter : SessionRow → List Message → ℕ
next_counter row messages = row.counter_out + length messages

-- the one datagram of the next message
abbrev pub next_datagram : SessionRow → List Message → ProtocolHeader → List ℕ → List ℕ
next_datagram row messages header payload = datagram row (next_counter row messages) header payload

-- Why the next message is not sealed: there is no counter left, since the last is never used, or its
-- datagram has more than 1,232 bytes.
abbrev pub refusal : SessionRow → List Message → ProtocolHeader → List ℕ → Option SealFault
refusal row messages header payload =
    if next_counter row messages == LAST_COUNTER then Some Exhausted
    else if nat_lt SENT_BYTES (datagram_length header payload) then Some TooLong
    else None

-- what was let in, once an answer was given
abbrev pub arrivals_by : List Arrival → Result Arrival Dropped → List Arrival
arrivals_by arrivals (Ok a) = arrivals ++ a ∷ []
arrivals_by arrivals (Err dropped) = arrivals

-- A session stands for its row, for what was let in and for what was sealed since it was made.
pub record StandsFor (session : Session) (row : SessionRow) (arrivals : List Arrival) (messages : List Message) : Type 0 where
  pub is_row : session.row ≡ row
  pub is_window : IsWindowOf session.window row.counter_in (counters arrivals)
  pub is_counter : session.counter ≡ next_counter row messages

-- A counter is left for the next message.
abbrev pub HasCounter : Session → Type 0
HasCounter session = session.counter ≢ LAST_COUNTER
