-- What a datagram says to the node.
use Rattle.std.specs.Prelude.{ℕ, Bool, true, false, List, [], ◌∷◌, ◌++◌, Option, Some, None, Result, Ok, Err, if◌then◌else◌}
use Rattle.mt_frame.specs.declared.header.ProtocolHeader.{ProtocolHeader}
use Rattle.mt_im_out.specs.Chunks.{chunks_of}
use Rattle.mt_model.specs.messages.Status.{code_of}
use Rattle.mt_model.specs.declared.messages.message.Payload.{Payload}
use Rattle.mt_model.specs.declared.messages.message.Reply.TheVariants as replies
use Rattle.mt_model.specs.declared.messages.status.Status.TheVariants.{Busy}
use Rattle.mt_model.specs.declared.texts.config.SessionRow.{SessionRow}
use Rattle.mt_outside.specs.declared.network.Peer.{Peer}
use Rattle.mt_session.specs.declared.opening.Dropped.{Dropped}
use Rattle.mt_session.specs.declared.opening.Dropped.TheVariants.{Duplicate}
use Rattle.mt_session.specs.declared.opening.Opened.{Opened}
use Rattle.mt_session.specs.Opening.{Arrival, arrival, received}
use Rattle.mt_session.specs.Sessions.{counters}
use Rattle.mt_exchange.specs.declared.exchange.Key.{Key}
use Rattle.mt_exchange.specs.Receiving.{Taken, acknowledged, ask, busy, closed, confirmed, ended, key_of, next, taken}
use Rattle.mt_exchange.specs.Receiving as receiving
use Rattle.mt_exchange.specs.Shown.{heard}
use Rattle.mt_talk.specs.Talks.{IsTalkOf, Talk, open_in, run_in}
use Rattle.mt_talk.specs.declared.talk.Talk as code
use Rattle.mt_talk.specs.declared.hearing.Heard.{Heard}
use Rattle.mt_talk.specs.declared.hearing.Heard.TheVariants as heards

-- What is heard: nothing that anybody waits for; a request, with the exchange to answer on, the counter to acknowledge, and
-- until when it had to come; the confirmation of a subscription's report; the end of a reply, and of the subscription that it
-- was of; or something that is answered at once, with these payloads.
pub data Said : Type 0 where
  nothing : Said
  asks : Key → Option ℕ → ℕ → List ℕ → Option ℕ → Said
  confirms : Key → Option ℕ → ℕ → Said
  ends : Key → Option ℕ → Option ℕ → Said
  answers : Key → Option ℕ → List Payload → Said

-- as the code has it
abbrev pub said_by : Heard → Said
said_by heards.Nothing = nothing
said_by (heards.Asks key acknowledge opcode payload timed) = asks key acknowledge opcode payload.now timed
said_by (heards.Confirms key acknowledge subscription) = confirms key acknowledge subscription
said_by (heards.Ends key acknowledge subscription) = ends key acknowledge subscription
said_by (heards.Answers key acknowledge payloads) = answers key acknowledge payloads

-- a reliable message is acknowledged
abbrev pub acknowledging : ProtocolHeader → ℕ → Option ℕ
acknowledging header counter = if header.reliable then Some counter else None

-- what the session makes of a datagram
abbrev pub received_in : SessionRow → Talk → List ℕ → Result Arrival Dropped
received_in row t bytes = received row (counters (run_in t).arrivals) bytes

-- A fifth exchange is told that the node is busy.
abbrev pub busy_payloads : List Payload
busy_payloads = chunks_of (replies.Status (code_of Busy))

-- what a fresh message says, by its turn
abbrev pub said_as : Key → Option ℕ → Taken → Said
said_as at acknowledge (ask key opcode payload timed) = asks key acknowledge opcode payload timed
said_as at acknowledge (next key) = answers key acknowledge []
said_as at acknowledge (confirmed key subscription) = confirms key acknowledge subscription
said_as at acknowledge (ended key subscription) = ends key acknowledge subscription
said_as at acknowledge acknowledged = answers at acknowledge []
said_as at acknowledge (busy key) = answers key acknowledge busy_payloads
said_as at acknowledge closed = answers at acknowledge []

abbrev pub said_fresh : SessionRow → Talk → Arrival → Said
said_fresh row t a = said_as (key_of a.header) (acknowledging a.header a.counter) (taken (open_in row t) a)

-- a copy of a message that was let in is acknowledged again, whatever its exchange keeps
abbrev pub said_again : Dropped → Said
said_again (Duplicate counter header) = answers (key_of header) (acknowledging header counter) []
said_again dropped = nothing

-- While a session is not live nothing that comes says anything.
abbrev pub said_in : SessionRow → Talk → Bool → Result Arrival Dropped → Said
said_in row t true (Ok a) = said_fresh row t a
said_in row t true (Err dropped) = said_again dropped
said_in row t false answer = nothing

-- WHAT A DATAGRAM SAYS, where the session is live or not
abbrev pub said : SessionRow → Talk → Bool → List ℕ → Said
said row t live bytes = said_in row t live (received_in row t bytes)

-- A talk behind a datagram from there. What is dropped leaves nothing.
abbrev pub after_received : Bool → Peer → Result Arrival Dropped → Talk → Talk
after_received live from (Ok a) t = record t { shown = t.shown ++ heard live a ∷ []; open_ones = if live then receiving.received t.open_ones a else t.open_ones; latest = Some from }
after_received live from (Err dropped) t = t

abbrev pub after_datagram : SessionRow → Bool → Peer → List ℕ → Talk → Talk
after_datagram row live from bytes t = after_received live from (received_in row t bytes) t

-- the fresh message of a datagram, where it brings one
abbrev pub fresh_by : Result Arrival Dropped → Option Arrival
fresh_by (Ok a) = Some a
fresh_by (Err dropped) = None

abbrev pub fresh_as : Option Opened → Option Arrival
fresh_as None = None
fresh_as (Some opened) = Some (arrival opened)

-- A talk behind a datagram for which there is no memory: the message counts, and its exchange has taken it or is as it was, as while the
-- session is not live.
pub record IsHeardInPart (talk : code.Talk) (row : SessionRow) (from : Peer) (bytes : List ℕ) (t : Talk) : Type 0 where
  pub taken : Bool
  pub stands : IsTalkOf talk row (after_datagram row taken from bytes t)
