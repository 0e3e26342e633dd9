-- What is sent on the exchanges of a session, and what is then kept, owed and awaited.
use Rattle.std.specs.Prelude.{ℕ, zero, suc, ◌+◌, ◌%◌, Bool, true, false, List, [], ◌∷◌, ◌++◌, Option, Some, None, Result, Ok, Err, if◌then◌else◌}
use Rattle.mt_frame.specs.declared.header.ProtocolHeader.{ProtocolHeader}
use Rattle.mt_model.specs.declared.texts.config.SessionRow.{SessionRow}
use Rattle.mt_model.specs.declared.messages.message.Payload.{Payload}
use Rattle.mt_session.specs.declared.fault.SealFault.{SealFault}
use Rattle.mt_session.specs.declared.fault.SealFault.TheVariants.{Exhausted, TooLong, Memory}
use Rattle.mt_session.specs.Sessions.{Message, next_datagram, refusal}
use Rattle.mt_exchange.specs.declared.exchange.Key.{Key}
use Rattle.mt_exchange.specs.declared.exchange.Exchange.{Exchange}
use Rattle.mt_exchange.specs.Opened.{exchange_at, is_open}
use Rattle.mt_exchange.specs.Payloads.{awaits, subscription_with}

-- What is sent: nothing, an acknowledgement alone, a payload after which the others are kept, or a payload on
-- no exchange.
pub data Sending : Type 0 where
  silence : Sending
  alone : ℕ → Sending
  reliably : Payload → List Payload → Sending
  plainly : Payload → Sending

abbrev pub acknowledging : Option ℕ → Sending
acknowledging None = silence
acknowledging (Some counter) = alone counter

-- without payloads: the next kept one where it is its turn, else the acknowledgement
abbrev pub sending_kept : Bool → List Payload → Option ℕ → Sending
sending_kept true (payload ∷ rest) acknowledge = reliably payload rest
sending_kept true [] acknowledge = acknowledging acknowledge
sending_kept false kept acknowledge = acknowledging acknowledge

-- what an answer sends on what there is of its exchange
abbrev pub sending : Exchange → Option ℕ → List Payload → Sending
sending x acknowledge (payload ∷ rest) = if is_open x then reliably payload rest else plainly payload
sending x acknowledge [] = sending_kept x.unanswered x.kept acknowledge

-- The headers: the initiator flag is set on the exchanges that the node began.
abbrev pub header_of : Key → Bool → ℕ → Option ℕ → ProtocolHeader
header_of key reliable opcode acknowledge =
    record { initiator = key.ours; reliable = reliable; opcode = opcode; exchange = key.exchange; protocol = 1; vendor = None; acknowledged = acknowledge }

abbrev pub acknowledgement : Key → ℕ → ProtocolHeader
acknowledgement key counter =
    record { initiator = key.ours; reliable = false; opcode = 0x10; exchange = key.exchange; protocol = 0; vendor = None; acknowledged = Some counter }

abbrev pub header_to_send : Key → Option ℕ → Sending → Option ProtocolHeader
header_to_send key acknowledge silence = None
header_to_send key acknowledge (alone counter) = Some (acknowledgement key counter)
header_to_send key acknowledge (reliably p rest) = Some (header_of key true p.opcode acknowledge)
header_to_send key acknowledge (plainly p) = Some (header_of key false p.opcode acknowledge)

abbrev pub payload_to_send : Sending → List ℕ
payload_to_send silence = []
payload_to_send (alone counter) = []
payload_to_send (reliably p rest) = p.bytes
payload_to_send (plainly p) = p.bytes

abbrev pub message_under : Option ProtocolHeader → List ℕ → Option Message
message_under None payload = None
message_under (Some header) payload = Some (record { header = header; payload = payload })

-- the message, where there is one
abbrev pub message : Key → Option ℕ → Sending → Option Message
message key acknowledge s = message_under (header_to_send key acknowledge s) (payload_to_send s)

-- the datagram, unless the session refuses
abbrev pub sealed_unless : Option SealFault → List ℕ → Result (Option (List ℕ)) SealFault
sealed_unless None bytes = Ok (Some bytes)
sealed_unless (Some fault) bytes = Err fault

-- whether the session seals a message
abbrev pub sealing : SessionRow → List Message → Option Message → Result (Option (List ℕ)) SealFault
sealing row messages None = Ok None
sealing row messages (Some m) = sealed_unless (refusal row messages m.header m.payload) (next_datagram row messages m.header m.payload)

-- all that was sealed, behind this
abbrev pub sealed_with : List Message → Option Message → Result (Option (List ℕ)) SealFault → List Message
sealed_with messages (Some m) (Ok bytes) = messages ++ m ∷ []
sealed_with messages (Some m) (Err fault) = messages
sealed_with messages None answer = messages

-- an exchange behind a payload that was sent: it is owed, and so are the confirmation and the request that it
-- asks for
abbrev pub behind_payload : Payload → List Payload → ℕ → List ℕ → ℕ → Exchange → Exchange
behind_payload p rest counter bytes now x =
    record x {
      unanswered = false;
      kept = rest;
      owed = x.owed ++ record { counter = counter; datagram = bytes; sendings = 1; last = now } ∷ [];
      confirmation = awaits p;
      deadline = p.deadline;
      subscription = subscription_with p x.subscription;
    }

-- an exchange behind what was sent, by what the session answered: where no counter is left nothing is kept of
-- the payloads, and a message that is too long leaves all as it was
abbrev pub behind_sending : Sending → ℕ → ℕ → Result (Option (List ℕ)) SealFault → Exchange → Exchange
behind_sending (reliably p rest) counter now (Ok (Some bytes)) x = behind_payload p rest counter bytes now x
behind_sending (reliably p rest) counter now (Ok None) x = record x { unanswered = false; kept = [] }
behind_sending (reliably p rest) counter now (Err Exhausted) x = record x { unanswered = false; kept = [] }
behind_sending (reliably p rest) counter now (Err TooLong) x = x
behind_sending (reliably p rest) counter now (Err Memory) x = x
behind_sending silence counter now answer x = record x { unanswered = false }
behind_sending (alone c) counter now (Ok bytes) x = record x { unanswered = false }
behind_sending (alone c) counter now (Err Exhausted) x = record x { unanswered = false }
behind_sending (alone c) counter now (Err TooLong) x = x
behind_sending (alone c) counter now (Err Memory) x = x
behind_sending (plainly p) counter now answer x = x

-- The ids of the node's exchanges rise from 1, go on at 0 behind 65,535, and leave out those of open ones.
abbrev pub own_key : ℕ → Key
own_key id = record { exchange = id; ours = true }

abbrev pub is_taken : List Exchange → ℕ → Bool
is_taken open_ones id = is_open (exchange_at (own_key id) open_ones)

-- the first free id of so many, from this one on
unfoldable pub free_from : ℕ → ℕ → List Exchange → Option ℕ
free_from id zero open_ones = None
free_from id (suc n) open_ones = if is_taken open_ones id then free_from ((id + 1) % 65536) n open_ones else Some id

abbrev pub free_id : ℕ → List Exchange → Option ℕ
free_id from open_ones = free_from from 65536 open_ones
