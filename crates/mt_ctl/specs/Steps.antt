-- The messages of a script: their protocol headers and payloads.
use Rattle.std.specs.Prelude.{ℕ, ◌+◌, ◌≤◌, ◌%◌, Bool, true, false, List, [], ◌∷◌, length, Option, None, All}
use Rattle.mt_frame.specs.declared.header.ProtocolHeader.{ProtocolHeader}
use Rattle.mt_session.specs.Sessions.{Message}
use Rattle.mt_ctl.specs.declared.steps.Kind.{Kind}
use Rattle.mt_ctl.specs.declared.steps.Kind.TheVariants.{New, Ours, Node}
use Rattle.mt_ctl.specs.declared.steps.Step.{Step}

-- Each payload fits a datagram of 1,232 bytes, of which the headers and the tag take up to 34.
abbrev pub AreShort : List Step → Type 0
AreShort steps = All (λ step. length step.payload ≤ 1198) steps

-- whether the controller began the exchange: the I flag of the message
abbrev pub is_ours : Kind → Bool
is_ours New = true
is_ours (Ours exchange ack) = true
is_ours (Node exchange ack) = false

-- the exchange of a step, where this is the id of the next exchange that the controller begins
abbrev pub exchange_of : ℕ → Kind → ℕ
exchange_of next New = next
exchange_of next (Ours exchange ack) = exchange
exchange_of next (Node exchange ack) = exchange

-- the counter that a step acknowledges
abbrev pub ack_of : Kind → Option ℕ
ack_of New = None
ack_of (Ours exchange ack) = ack
ack_of (Node exchange ack) = ack

-- the id of the next exchange behind a step: a new exchange takes one, and 0 comes behind 65,535
abbrev pub next_behind : ℕ → Kind → ℕ
next_behind next New = (next + 1) % 65536
next_behind next (Ours exchange ack) = next
next_behind next (Node exchange ack) = next

-- The protocol header of a step. Each message asks for an acknowledgement, and is of the interaction
-- model, which is protocol 1.
abbrev pub header_of : ℕ → Step → ProtocolHeader
header_of next step = record {
  initiator = is_ours step.kind;
  reliable = true;
  opcode = step.opcode;
  exchange = exchange_of next step.kind;
  protocol = 1;
  vendor = None;
  acknowledged = ack_of step.kind;
}

-- the message of a step
abbrev pub message_of : ℕ → Step → Message
message_of next step = record { header = header_of next step; payload = step.payload }

-- the messages of steps, where this is the id of the next exchange
abbrev pub messages_from : ℕ → List Step → List Message
messages_from next [] = []
messages_from next (step ∷ steps) = message_of next step ∷ messages_from (next_behind next step.kind) steps

-- The protocol headers and the payloads of a script. The controller's exchanges have the ids from 1 on.
abbrev pub script_headers : List Step → List Message
script_headers steps = messages_from 1 steps
