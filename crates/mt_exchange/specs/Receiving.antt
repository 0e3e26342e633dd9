-- What a fresh message is to the exchanges of its session (Matter Core Specification, section 4.10, Message
-- Exchanges, and section 4.11, Message Reliability Protocol).
use Rattle.std.specs.Prelude.{◌≡◌, ℕ, ◌==◌, ◌&&◌, nat_lt, Bool, true, false, not, List, [], filter, Option, Some, None, is_none, if◌then◌else◌}
use Rattle.std.specs.Option.{unwrap_or}
use Rattle.mt_model.specs.declared.limits.TheConstants.{EXCHANGES}
use Rattle.mt_frame.specs.declared.header.ProtocolHeader.{ProtocolHeader}
use Rattle.mt_session.specs.Opening.{Arrival}
use Rattle.mt_exchange.specs.declared.exchange.Key.{Key}
use Rattle.mt_exchange.specs.declared.exchange.Owed.{Owed}
use Rattle.mt_exchange.specs.declared.exchange.Exchange.{Exchange}
use Rattle.mt_exchange.specs.declared.turn.Turn.{Turn}
use Rattle.mt_exchange.specs.declared.turn.Turn.TheVariants as turns
use Rattle.mt_exchange.specs.Opened.{count_of_peer, exchange_at, is_any, is_open, put}
use Rattle.mt_exchange.specs.Payloads.{is_success}

-- What a message is: a request to be acted on, the wish for the next payload, the confirmation of the last,
-- the end of a reply, nothing but an acknowledgement, one exchange too many, or part of no exchange.
pub data Taken : Type 0 where
  ask : Key → ℕ → List ℕ → Option ℕ → Taken
  next : Key → Taken
  confirmed : Key → ℕ → Taken
  ended : Key → Option ℕ → Taken
  acknowledged : Taken
  busy : Key → Taken
  closed : Taken

-- a turn as the code has it
abbrev pub taken_by : Turn → Taken
taken_by (turns.Ask key opcode payload timed) = ask key opcode payload.now timed
taken_by (turns.Next key) = next key
taken_by (turns.Confirmed key subscription) = confirmed key subscription
taken_by (turns.Ended key subscription) = ended key subscription
taken_by turns.Acknowledged = acknowledged
taken_by (turns.Busy key) = busy key
taken_by turns.Closed = closed

-- the exchange of a message: the peer began it where the initiator flag is set
abbrev pub key_of : ProtocolHeader → Key
key_of header = record { exchange = header.exchange; ours = not header.initiator }

-- a message of the interaction model
abbrev pub is_interaction : ProtocolHeader → Bool
is_interaction header = header.protocol == 1 && is_none header.vendor

-- whether a message begins an exchange where it is part of none
abbrev pub begins : ProtocolHeader → Bool
begins header = is_interaction header && header.initiator

-- what is owed once a counter is acknowledged
abbrev pub owed_without : Option ℕ → List Owed → List Owed
owed_without None owed = owed
owed_without (Some counter) owed = filter (λ o. not (o.counter == counter)) owed

-- an exchange once a message on it has come that acknowledges this
abbrev pub relieved : Option ℕ → Exchange → Exchange
relieved counter x = record x { owed = owed_without counter x.owed }

-- first of all the acknowledgement that a message carries is taken
abbrev pub relieved_ones : ProtocolHeader → List Exchange → List Exchange
relieved_ones header open_ones = put (relieved header.acknowledged (exchange_at (key_of header) open_ones)) open_ones

-- what a message is on an exchange whose confirmation is awaited
abbrev pub confirming : Exchange → Bool → Taken
confirming x success =
    if not success then ended x.key x.subscription
    else if is_any x.kept then next x.key
    else confirmed x.key (unwrap_or x.subscription 0)

-- whether a message says success, as far as its exchange asks for that
abbrev pub IsSuccessOn : Exchange → Arrival → Bool → Type 0
IsSuccessOn x a success = x.confirmation ≡ true → is_interaction a.header ≡ true → success ≡ is_success a.header.opcode a.payload

-- what a message is where this is what there is of its exchange, and the peer has so many
abbrev pub taken_on : Exchange → ℕ → Arrival → Taken
taken_on x count a =
    if not (is_open x) && not (begins a.header) then closed
    else if not (is_open x) && not (nat_lt count EXCHANGES) then busy x.key
    else if not (is_interaction a.header) then acknowledged
    else if x.confirmation then confirming x (is_success a.header.opcode a.payload)
    else ask x.key a.header.opcode a.payload x.deadline

-- what a message is
abbrev pub taken : List Exchange → Arrival → Taken
taken open_ones a =
    let rest = relieved_ones a.header open_ones in
    taken_on (exchange_at (key_of a.header) rest) (count_of_peer rest) a

-- the exchange behind a message that is taken so
abbrev pub behind : Taken → Exchange → Exchange
behind (ask key opcode payload timed) x = record x { unanswered = true; deadline = None }
behind (next key) x = record x { unanswered = true; confirmation = false }
behind (confirmed key subscription) x = record x { unanswered = true; confirmation = false }
behind (ended key subscription) x = record x { kept = []; confirmation = false }
behind acknowledged x = x
behind (busy key) x = x
behind closed x = x

-- the open exchanges behind a message
abbrev pub received : List Exchange → Arrival → List Exchange
received open_ones a =
    let rest = relieved_ones a.header open_ones in
    put (behind (taken open_ones a) (exchange_at (key_of a.header) rest)) rest
