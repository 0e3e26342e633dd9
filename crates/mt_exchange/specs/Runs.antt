-- The run of a session: what is open, owed and awaited after all that has happened on it, in a list that nothing
-- stores.
use Rattle.std.specs.Prelude.{◌≡◌, ℕ, ◌+◌, ◌%◌, Bool, true, false, List, [], ◌∷◌, ◌++◌, fold, Option, Some, None, Result, Ok, Err}
use Rattle.mt_model.specs.declared.texts.config.SessionRow.{SessionRow}
use Rattle.mt_model.specs.declared.messages.message.Payload.{Payload}
use Rattle.mt_session.specs.declared.fault.SealFault.{SealFault}
use Rattle.mt_session.specs.declared.kept.Session.{Session}
use Rattle.mt_session.specs.Opening.{Arrival}
use Rattle.mt_session.specs.Sessions.{Message, StandsFor, next_counter}
use Rattle.mt_exchange.specs.declared.exchange.Key.{Key}
use Rattle.mt_exchange.specs.declared.exchange.Exchange.{Exchange}
use Rattle.mt_exchange.specs.declared.exchanges.Exchanges.{Exchanges}
use Rattle.mt_exchange.specs.Opened.{exchange_at, nothing, put}
use Rattle.mt_exchange.specs.Receiving.{received}
use Rattle.mt_exchange.specs.Resending.{resent}
use Rattle.mt_exchange.specs.Sending.{Sending, reliably, behind_sending, free_id, message, own_key, sealed_with, sealing, sending}

-- What happens on a session: a message is let in while the session is live or not, an answer is given to a message on
-- an exchange with the counter that is to be acknowledged, a subscription reports, what is owed is sent again,
-- or all exchanges are dropped. Times are in ms.
pub data Happening : Type 0 where
  arrived : Bool → Arrival → Happening
  answered : Key → Option ℕ → List Payload → ℕ → Happening
  reported : ℕ → List Payload → ℕ → Happening
  resend_step : ℕ → Happening
  dropped : Happening

-- Where a run is: the open exchanges by rising key, the first id that is tried for the node's next exchange, all
-- messages that were let in, and all that were sealed.
pub record Run : Type 0 where
  pub open_ones : List Exchange
  pub next_id : ℕ
  pub arrivals : List Arrival
  pub messages : List Message

abbrev pub begun : Run
begun = record { open_ones = []; next_id = 1; arrivals = []; messages = [] }

-- a message on a session that is not live counts in the window alone
abbrev pub after_arrival : Bool → Arrival → Run → Run
after_arrival true a r = record r { open_ones = received r.open_ones a; arrivals = r.arrivals ++ a ∷ [] }
after_arrival false a r = record r { arrivals = r.arrivals ++ a ∷ [] }

-- what an answer sends, and what the session says to that
abbrev pub answer_sending : Run → Key → Option ℕ → List Payload → Sending
answer_sending r key acknowledge payloads = sending (exchange_at key r.open_ones) acknowledge payloads

abbrev pub answer_message : Run → Key → Option ℕ → List Payload → Option Message
answer_message r key acknowledge payloads = message key acknowledge (answer_sending r key acknowledge payloads)

abbrev pub answer_of : SessionRow → Run → Key → Option ℕ → List Payload → Result (Option (List ℕ)) SealFault
answer_of row r key acknowledge payloads = sealing row r.messages (answer_message r key acknowledge payloads)

abbrev pub after_answer : SessionRow → Key → Option ℕ → List Payload → ℕ → Run → Run
after_answer row key acknowledge payloads now r =
    let answer = answer_of row r key acknowledge payloads in
    let x = exchange_at key r.open_ones in
    record r {
      open_ones = put (behind_sending (answer_sending r key acknowledge payloads) (next_counter row r.messages) now answer x) r.open_ones;
      messages = sealed_with r.messages (answer_message r key acknowledge payloads) answer;
    }

-- The exchange that a report begins: it is of the subscription, and has no message yet.
abbrev pub fresh_exchange : ℕ → ℕ → Exchange
fresh_exchange id subscription = record (nothing (own_key id)) { subscription = Some subscription }

-- what a report sends under a free id, if there are both an id and a payload
abbrev pub report_message : Option ℕ → List Payload → Option Message
report_message None payloads = None
report_message (Some id) [] = None
report_message (Some id) (p ∷ rest) = message (own_key id) None (reliably p rest)

abbrev pub report_of : SessionRow → Run → List Payload → Result (Option (List ℕ)) SealFault
report_of row r payloads = sealing row r.messages (report_message (free_id r.next_id r.open_ones) payloads)

-- an exchange is begun where the report was sealed
abbrev pub begun_with : SessionRow → ℕ → Option ℕ → List Payload → ℕ → Result (Option (List ℕ)) SealFault → Run → Run
begun_with row subscription (Some id) (p ∷ rest) now (Ok bytes) r =
    record r {
      open_ones =
          put (behind_sending (reliably p rest) (next_counter row r.messages) now (Ok bytes) (fresh_exchange id subscription)) r.open_ones;
      next_id = (id + 1) % 65536;
    }
begun_with row subscription (Some id) (p ∷ rest) now (Err fault) r = r
begun_with row subscription (Some id) [] now answer r = r
begun_with row subscription None payloads now answer r = r

abbrev pub after_report : SessionRow → ℕ → List Payload → ℕ → Run → Run
after_report row subscription payloads now r =
    let id = free_id r.next_id r.open_ones in
    let answer = report_of row r payloads in
    record (begun_with row subscription id payloads now answer r) { messages = sealed_with r.messages (report_message id payloads) answer }

-- a run behind what happens
abbrev pub after : SessionRow → Run → Happening → Run
after row r (arrived live a) = after_arrival live a r
after row r (answered key acknowledge payloads now) = after_answer row key acknowledge payloads now r
after row r (reported subscription payloads now) = after_report row subscription payloads now r
after row r (resend_step now) = record r { open_ones = resent now r.open_ones }
after row r dropped = record r { open_ones = [] }

-- THE RUN OF A SESSION: from its row and all that has happened, in order
abbrev pub run : SessionRow → List Happening → Run
run row happenings = fold (after row) begun happenings

-- The exchanges stand for all that has happened on the session of this row.
pub record IsRunOf (exchanges : Exchanges) (row : SessionRow) (happenings : List Happening) : Type 0 where
  pub open_ones : exchanges.table ≡ (run row happenings).open_ones
  pub next_id : exchanges.next_id ≡ (run row happenings).next_id

-- The session stands for it too.
abbrev pub IsSessionOf : Session → SessionRow → List Happening → Type 0
IsSessionOf session row happenings = StandsFor session row (run row happenings).arrivals (run row happenings).messages
