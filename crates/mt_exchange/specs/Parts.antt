-- What is sent, as the code has it, and payloads one by one.
use Rattle.std.specs.Prelude.{List, [], ◌∷◌, Option, Some, None}
use Rattle.mt_model.specs.declared.messages.message.Payload.{Payload}
use Rattle.mt_exchange.specs.declared.sending.Sending as code
use Rattle.mt_exchange.specs.declared.sending.Sending.TheVariants as sendings
use Rattle.mt_exchange.specs.declared.telling.Outgoing as told
use Rattle.mt_exchange.specs.Sending.{Sending, silence, alone, reliably, plainly}
use Rattle.mt_exchange.specs.Shown.{Outgoing}

abbrev pub sending_by : code.Sending → Sending
sending_by sendings.Silence = silence
sending_by (sendings.Alone counter) = alone counter
sending_by (sendings.Reliably payload rest) = reliably payload rest
sending_by (sendings.Plainly payload) = plainly payload

abbrev pub outgoing_in : told.Outgoing → Outgoing
outgoing_in o = record { message = record { header = o.header; payload = o.payload }; deadline = o.deadline }

abbrev pub first_of : List Payload → Option Payload
first_of [] = None
first_of (p ∷ rest) = Some p

abbrev pub rest_of : List Payload → List Payload
rest_of [] = []
rest_of (p ∷ rest) = rest

-- nothing is sent of what the exchange has kept
abbrev pub IsUntaken : Sending → Type 0
IsUntaken silence = Unit {0}
IsUntaken (alone counter) = Unit {0}
IsUntaken (reliably payload rest) = ⊥
IsUntaken (plainly payload) = Unit {0}
