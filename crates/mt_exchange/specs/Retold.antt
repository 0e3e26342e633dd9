-- A run, retold from what is shown of it. That tells what is open, owed and awaited, and the id that the node's next exchange tries first; what it
-- does not tell is which payloads are kept to be sent later.
use Rattle.std.specs.Prelude.{◌≡◌, ◌≢◌, ℕ, ◌+◌, ◌%◌, Bool, true, false, List, [], ◌∷◌, ◌++◌, fold, map, Option, Err}
use Rattle.std.specs.List.{AllByRecursion}
use Rattle.mt_frame.specs.declared.header.ProtocolHeader.{ProtocolHeader}
use Rattle.mt_model.specs.declared.texts.config.SessionRow.{SessionRow}
use Rattle.mt_model.specs.declared.messages.message.Payload.{Payload}
use Rattle.mt_session.specs.declared.fault.SealFault.TheVariants.{TooLong}
use Rattle.mt_session.specs.Opening.{Arrival}
use Rattle.mt_session.specs.Sessions.{Message, next_counter, next_datagram}
use Rattle.mt_exchange.specs.declared.exchange.Key.{Key}
use Rattle.mt_exchange.specs.declared.exchange.Exchange.{Exchange}
use Rattle.mt_exchange.specs.Opened.{exchange_at, if_open, is_any, is_open, put}
use Rattle.mt_exchange.specs.Payloads.{awaits}
use Rattle.mt_exchange.specs.Receiving.{Taken, acknowledged, ask, busy, confirmed, ended, key_of, next, taken}
use Rattle.mt_exchange.specs.Receiving as receiving
use Rattle.mt_exchange.specs.Resending.{resent}
use Rattle.mt_exchange.specs.Runs.{Happening, Run, after, after_arrival, answer_of, answered, arrived, begun, dropped, fresh_exchange, reported, resend_step}
use Rattle.mt_exchange.specs.Sending.{behind_payload}
use Rattle.mt_exchange.specs.Shown.{Outgoing, Shown, again, closed, heard, messages_in, sent, shown_by, told}

-- What is told of an exchange: all but the payloads that are kept.
abbrev pub bare : Exchange → Exchange
bare x = record x { kept = [] }

-- What is heard is taken as answered, without a message, where none comes before anything else.

abbrev pub quiet : Exchange → Exchange
quiet x = record x { unanswered = false }

abbrev pub settled : List Exchange → List Exchange
settled [] = []
settled (x ∷ xs) = if_open (quiet x) ++ settled xs

abbrev pub settle : Run → Run
settle r = record r { open_ones = settled r.open_ones }

-- A message that was sent: its exchange, which the node began where the initiator flag is set, and the payload that it brought.

abbrev pub key_sent : ProtocolHeader → Key
key_sent header = record { exchange = header.exchange; ours = header.initiator }

abbrev pub payload_sent : Outgoing → Payload
payload_sent out = record { opcode = out.message.header.opcode; bytes = out.message.payload; deadline = out.deadline }

-- this is what there is of its exchange behind it
abbrev pub behind_sent : SessionRow → List Message → Outgoing → ℕ → Exchange → Exchange
behind_sent row messages out now x =
    behind_payload (payload_sent out) [] (next_counter row messages) (next_datagram row messages out.message.header out.message.payload) now x

-- a run behind it, where this is what there was of its exchange
abbrev pub sent_on : SessionRow → Outgoing → ℕ → Exchange → Run → Run
sent_on row out now x r = record r { open_ones = put (behind_sent row r.messages out now x) r.open_ones; messages = r.messages ++ out.message ∷ [] }

-- what asks for no acknowledgement changes no exchange
abbrev pub retell_sent : Bool → SessionRow → Outgoing → ℕ → Run → Run
retell_sent true row out now r = sent_on row out now (exchange_at (key_sent out.message.header) r.open_ones) r
retell_sent false row out now r = record r { messages = r.messages ++ out.message ∷ [] }

-- a report begins an exchange, and the next id is that behind its own
abbrev pub retell_told : SessionRow → ℕ → Outgoing → ℕ → Run → Run
retell_told row subscription out now r =
    record (sent_on row out now (fresh_exchange out.message.header.exchange subscription) r) { next_id = (out.message.header.exchange + 1) % 65536 }

-- A run behind what is shown. What is sent on an exchange answers what was heard on it.
abbrev pub retell : SessionRow → Run → Shown → Run
retell row r (heard live a) = after_arrival live a (settle r)
retell row r (sent out now) = settle (retell_sent out.message.header.reliable row out now r)
retell row r (told subscription out now) = retell_told row subscription out now (settle r)
retell row r (again now) = record (settle r) { open_ones = resent now (settled r.open_ones) }
retell row r closed = record r { open_ones = [] }

-- before it is known whether anything answers what was heard last
abbrev pub retold_so_far : SessionRow → List Shown → Run
retold_so_far row items = fold (retell row) begun items

-- THE RUN RETOLD from what is shown of it
abbrev pub retold : SessionRow → List Shown → Run
retold row items = settle (retold_so_far row items)

-- Of some payloads each but the last awaits its confirmation.
abbrev pub AwaitsAll : List Payload → Type 0
AwaitsAll [] = Unit {0}
AwaitsAll (p ∷ rest) = (is_any rest ≡ true → awaits p ≡ true) × AwaitsAll rest

-- Nothing on an exchange waits for the node: payloads are kept only while a confirmation is awaited, and each of them, but the last, awaits one.
pub record IsSettled (x : Exchange) : Type 0 where
  pub answered : x.unanswered ≡ false
  pub confirmed : is_any x.kept ≡ true → x.confirmation ≡ true
  pub awaiting : AwaitsAll x.kept

abbrev pub IsOpened : Exchange → Type 0
IsOpened x = is_open x ≡ true

-- WHAT IS SHOWN TELLS A RUN: but for the payloads that are kept the open exchanges are those of the run retold, and so is the next id; and nothing
-- waits for the node.
pub record IsRetold (row : SessionRow) (r : Run) (items : List Shown) : Type 0 where
  pub open_ones : map bare r.open_ones ≡ (retold row items).open_ones
  pub next_id : r.next_id ≡ (retold row items).next_id
  pub messages : r.messages ≡ messages_in items
  pub settled : AllByRecursion IsSettled r.open_ones
  pub opened : AllByRecursion IsOpened r.open_ones

-- A run that happens to be told so is told so behind whatever happens. Nothing tells the run at its beginning:
abbrev pub BegunIsRetold : Type 0
BegunIsRetold = (row : SessionRow) → IsRetold row begun []

abbrev pub StaysRetold : Happening → Type 0
StaysRetold happening = (row : SessionRow) (r : Run) (items : List Shown) → IsRetold row r items → IsRetold row (after row r happening) (items ++ shown_by row r happening)

-- While the session is not live messages leave the exchanges as they are.
abbrev pub WaitingIsRetold : Type 0
WaitingIsRetold = (a : Arrival) → StaysRetold (arrived false a)

-- A fresh message is heard, and then answered on its exchange, unless the session refuses the answer as too long: that leaves it unanswered.
abbrev pub AnswersAreRetold : Type 0
AnswersAreRetold = (row : SessionRow) (r : Run) (items : List Shown) (a : Arrival) (acknowledge : Option ℕ) (payloads : List Payload) (now : ℕ) → IsRetold row r items → AwaitsAll payloads
    → let hearing = after_arrival true a r in
    let happening = answered (key_of a.header) acknowledge payloads now in
    answer_of row hearing (key_of a.header) acknowledge payloads ≢ Err TooLong
    → IsRetold row (after row hearing happening) ((items ++ heard true a ∷ []) ++ shown_by row hearing happening)

-- A message that was let in before is acknowledged again.
abbrev pub CopiesAreRetold : Type 0
CopiesAreRetold = (key : Key) (acknowledge : Option ℕ) (now : ℕ) → StaysRetold (answered key acknowledge [] now)

abbrev pub ReportsAreRetold : Type 0
ReportsAreRetold = (subscription : ℕ) (payloads : List Payload) (now : ℕ) → AwaitsAll payloads → StaysRetold (reported subscription payloads now)

abbrev pub ResendStepsAreRetold : Type 0
ResendStepsAreRetold = (now : ℕ) → StaysRetold (resend_step now)

abbrev pub DropsAreRetold : Type 0
DropsAreRetold = StaysRetold dropped

-- The payloads that are still to be sent on an exchange.
pub record Still : Type 0 where
  pub key : Key
  pub payloads : List Payload

abbrev pub still : Exchange → Still
still x = record { key = x.key; payloads = x.kept }

-- SO WHAT IS SHOWN, WITH WHAT IS STILL TO BE SENT, determines the open exchanges and the next id.
abbrev pub ShownTellsTheRest : Type 0
ShownTellsTheRest = (row : SessionRow) (one other : Run) (items : List Shown) → IsRetold row one items → IsRetold row other items → map still one.open_ones ≡ map still other.open_ones
    → (one.open_ones ≡ other.open_ones) × (one.next_id ≡ other.next_id)

-- What a message is is said of its own exchange.

abbrev pub IsOn : Key → Taken → Type 0
IsOn at (ask key opcode payload timed) = key ≡ at
IsOn at (next key) = key ≡ at
IsOn at (confirmed key subscription) = key ≡ at
IsOn at (ended key subscription) = key ≡ at
IsOn at acknowledged = Unit {0}
IsOn at (busy key) = key ≡ at
IsOn at receiving.closed = Unit {0}

abbrev pub TakenOnItsExchange : Type 0
TakenOnItsExchange = (open_ones : List Exchange) (a : Arrival) → IsOn (key_of a.header) (taken open_ones a)
