-- What a session makes of a datagram: the tests in their order (Matter Core Specification, section 4.7.3,
-- Message Reception), and what the datagram brings where all of them pass.
use Rattle.std.specs.Prelude.{ℕ, ◌==◌, Bool, not, ◌||◌, false, List, take, drop, Option, Some, None, Result, Ok, Err, if◌then◌else◌}
use Rattle.mt_frame.specs.declared.header.MessageHeader.{MessageHeader}
use Rattle.mt_frame.specs.declared.header.ProtocolHeader.{ProtocolHeader}
use Rattle.mt_frame.specs.declared.fault.FrameFault.{FrameFault}
use Rattle.mt_frame.specs.Reading.{message_at, protocol_at}
use Rattle.mt_window.specs.Counters.{seen}
use Rattle.mt_window.specs.declared.window.Seen.{Seen}
use Rattle.mt_window.specs.declared.window.Seen.TheVariants as window
use Rattle.mt_model.specs.declared.texts.config.SessionRow.{SessionRow}
use Rattle.mt_session.specs.declared.opening.Dropped.{Dropped}
use Rattle.mt_session.specs.declared.opening.Dropped.TheVariants.{Frame, OtherSession, Source, NotSealed, Duplicate, Old}
use Rattle.mt_session.specs.declared.opening.Opened.{Opened}
use Rattle.mt_session.specs.Datagrams.{nonce, nonce_node, opened}

-- A message that was let in: its counter, its protocol header and its payload.
pub record Arrival : Type 0 where
  pub counter : ℕ
  pub header : ProtocolHeader
  pub payload : List ℕ

-- an arrival as the code has it
abbrev pub arrival : Opened → Arrival
arrival o = record { counter = o.counter; header = o.header; payload = o.payload.now }

-- an answer as the code has it
abbrev pub arrived : Result Opened Dropped → Result Arrival Dropped
arrived (Ok o) = Ok (arrival o)
arrived (Err dropped) = Err dropped

-- whether a node id that may be left out is another than this
abbrev pub is_other : Option ℕ → ℕ → Bool
is_other None node = false
is_other (Some id) node = not (id == node)

-- Source: the message says that it comes from another node than the peer, or goes to another than the own
abbrev pub is_foreign : SessionRow → MessageHeader → Bool
is_foreign row header = is_other header.source row.peer_node || is_other header.destination row.own_node

-- the last test: the window over all counters that were let in
abbrev pub windowed : Seen → ℕ → ProtocolHeader → List ℕ → Result Arrival Dropped
windowed window.Fresh counter header payload = Ok (record { counter = counter; header = header; payload = payload })
windowed window.Duplicate counter header payload = Err (Duplicate counter header)
windowed window.Old counter header payload = Err Old

-- the test of the protocol header, which is at the front of the plaintext
abbrev pub framed : SessionRow → List ℕ → ℕ → List ℕ → Result (ProtocolHeader × ℕ) FrameFault → Result Arrival Dropped
framed row accepted counter plain (Err fault) = Err (Frame fault)
framed row accepted counter plain (Ok x) = windowed (seen row.counter_in accepted counter) counter x.0 (drop x.1 plain)

-- the test of the seal
abbrev pub under_seal : SessionRow → List ℕ → ℕ → Option (List ℕ) → Result Arrival Dropped
under_seal row accepted counter None = Err NotSealed
under_seal row accepted counter (Some plain) = framed row accepted counter plain (protocol_at plain)

-- what is sealed behind a message header of this length
abbrev pub unsealed : SessionRow → ℕ → ℕ → List ℕ → Option (List ℕ)
unsealed row counter len bytes =
    opened row.key_in (nonce counter (nonce_node row.auth row.peer_node)) (take len bytes) (drop len bytes)

-- the tests behind the message header: the session's id, then the node ids, then the seal
abbrev pub addressed : SessionRow → List ℕ → List ℕ → Result (MessageHeader × ℕ) FrameFault → Result Arrival Dropped
addressed row accepted bytes (Err fault) = Err (Frame fault)
addressed row accepted bytes (Ok x) =
    if not (x.0.session == row.session) then Err OtherSession
    else if is_foreign row x.0 then Err Source
    else under_seal row accepted x.0.counter (unsealed row x.0.counter x.1 bytes)

-- What a session that let in these counters answers to a datagram.
abbrev pub received : SessionRow → List ℕ → List ℕ → Result Arrival Dropped
received row accepted bytes = addressed row accepted bytes (message_at bytes)
