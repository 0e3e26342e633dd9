-- The lines of what is sent: what a line tells and how it is written, and the whole output.
use Rattle.std.specs.Prelude.{◌≡◌, ℕ, ◌+◌, nat_lt, ◌||◌, Bool, List, [], ◌∷◌, length, map, Option, Some, None, Result, Ok, Err, if◌then◌else◌, codes}
use Rattle.std.specs.Fmt.{decimal}
use Rattle.hex.specs.Hex.{encode_lower}
use Rattle.mt_outside.specs.declared.network.Peer.{Peer}
use Rattle.mt_model.specs.declared.limits.TheConstants.{LINE_BYTES, PAYLOAD_BYTES, RECEIVED_BYTES, RECORDING_BYTES, RECORDING_LINES}
use Rattle.mt_model.specs.declared.texts.line_fault.LineFault.{LineFault}
use Rattle.mt_model.specs.declared.texts.line_fault.LineFault.TheVariants.{TooLong}
use Rattle.mt_model.specs.declared.texts.line_fault.LineKind.{LineKind}
use Rattle.mt_model.specs.declared.texts.line_fault.LineKind.TheVariants.{Form, Number, Hex, Time}
use Rattle.mt_model.specs.declared.texts.recording.Sent.{Sent}
use Rattle.mt_model.specs.declared.texts.recording.To.{To}
use Rattle.mt_model.specs.declared.texts.recording.To.TheVariants.{Plain, Session}
use Rattle.mt_files.specs.Event.{fabric_in, time_in}
use Rattle.mt_files.specs.Field.{opcode_in, payload_in, payload_text, peer_in, peer_text}
use Rattle.mt_files.specs.Lines.{fields_of, line_of, lines_of, text_is, text_of}
use Rattle.mt_files.specs.Told.{at_line, followed}

-- How a message is written.

-- `S ms peer bytes`: a datagram to a session's peer; `P ms fabric opcode payload`: a payload to a plain actor
abbrev pub fields_to : ℕ → To → List ℕ → List (List ℕ)
fields_to ms (Session session peer) bytes = codes "S" ∷ decimal ms ∷ peer_text peer ∷ payload_text bytes ∷ []
fields_to ms (Plain fabric opcode) bytes = codes "P" ∷ decimal ms ∷ decimal fabric ∷ encode_lower (opcode ∷ []) ∷ payload_text bytes ∷ []

-- the line of a message, without its end
abbrev pub sent_line : Sent → List ℕ
sent_line message = line_of (fields_to message.ms message.to message.bytes)

-- a line for each message, in the order of sending
abbrev pub output_text : List Sent → List ℕ
output_text messages = text_of (map sent_line messages)

-- The bytes are the output of these messages: a line for each, and nothing else.
abbrev pub IsOutput : List ℕ → List Sent → Type 0
IsOutput bytes messages = bytes ≡ output_text messages

-- What a line tells whose fields tell this. The first that is wrong decides, in the order Form, Number,
-- Hex. No line names a session: 0, which none has, stands for it.

abbrev pub sealed_of : Option ℕ → Option Peer → Option (List ℕ) → Result Sent LineKind
sealed_of (Some ms) (Some peer) (Some bytes) = Ok (record { ms = ms; to = Session 0 peer; bytes = bytes })
sealed_of (Some ms) _ _ = Err Hex
sealed_of None _ _ = Err Number

abbrev pub plain_of : Option ℕ → Option ℕ → Option ℕ → Option (List ℕ) → Result Sent LineKind
plain_of (Some ms) (Some fabric) (Some opcode) (Some bytes) = Ok (record { ms = ms; to = Plain fabric opcode; bytes = bytes })
plain_of (Some ms) (Some fabric) _ _ = Err Hex
plain_of _ _ _ _ = Err Number

-- The lines of each letter, by the fields behind it.

-- `S ms peer bytes`: a datagram to a session's peer
abbrev pub sealed_in : List (List ℕ) → Result Sent LineKind
sealed_in (ms ∷ peer ∷ bytes ∷ []) = sealed_of (time_in ms) (peer_in peer) (payload_in RECEIVED_BYTES bytes)
sealed_in fields = Err Form

-- `P ms fabric opcode payload`: a payload to a plain actor
abbrev pub plain_in : List (List ℕ) → Result Sent LineKind
plain_in (ms ∷ fabric ∷ opcode ∷ payload ∷ []) =
    plain_of (time_in ms) (fabric_in fabric) (opcode_in opcode) (payload_in PAYLOAD_BYTES payload)
plain_in fields = Err Form

abbrev pub sent_by : List ℕ → List (List ℕ) → Result Sent LineKind
sent_by letter fields =
    if text_is letter (codes "S") then sealed_in fields
    else if text_is letter (codes "P") then plain_in fields
    else Err Form

abbrev pub sent_in : List (List ℕ) → Result Sent LineKind
sent_in [] = Err Form
sent_in (letter ∷ fields) = sent_by letter fields

-- what a line tells, whatever the time
abbrev pub line_sent : List ℕ → Result Sent LineKind
line_sent line = sent_in (fields_of line)

-- The whole text, which has no head.

-- a message whose time is not below the time before it
abbrev pub in_time : ℕ → Result Sent LineKind → Result Sent LineKind
in_time before (Err kind) = Err kind
in_time before (Ok message) = if nat_lt message.ms before then Err Time else Ok message

-- whether the line of this number has too many bytes, or is one line too many
abbrev pub is_too_long : ℕ → List ℕ → Bool
is_too_long number line = nat_lt LINE_BYTES (length line) || nat_lt RECORDING_LINES number

-- what the line of this number tells, behind lines up to this time
abbrev pub line_told : ℕ → ℕ → List ℕ → Result Sent LineFault
line_told number before line = if is_too_long number line then Err TooLong else at_line number (in_time before (line_sent line))

-- the messages of lines, the first of which has this number and stands behind this time, or the first fault
abbrev pub messages_from : ℕ → ℕ → List (List ℕ) → Result (List Sent) LineFault
messages_from number before [] = Ok []
messages_from number before (line ∷ lines) = followed (line_told number before line) (λ message. messages_from (number + 1) message.ms lines)

-- the messages of an output, or its first fault
abbrev pub output_of : List ℕ → Result (List Sent) LineFault
output_of bytes = if nat_lt RECORDING_BYTES (length bytes) then Err TooLong else messages_from 1 0 (lines_of bytes)

-- a message as an output tells it, which does not name its session
abbrev pub told_to : To → To
told_to (Session session peer) = Session 0 peer
told_to (Plain fabric opcode) = Plain fabric opcode

abbrev pub as_told : Sent → Sent
as_told message = record message { to = told_to message.to }
