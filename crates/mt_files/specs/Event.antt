-- What a line tells: an event, or what is wrong with the line; and the line of an event.
use Rattle.std.specs.Prelude.{ℕ, ◌==◌, nat_le, ◌&&◌, Bool, List, [], ◌∷◌, Option, Some, None, Result, Ok, Err, if◌then◌else◌, codes, length}
use Rattle.std.specs.Fmt.{decimal}
use Rattle.std.specs.List.{list_all}
use Rattle.hex.specs.Hex.{encode_lower}
use Rattle.mt_outside.specs.Fates.{fate_text}
use Rattle.mt_outside.specs.declared.fate.Fate.{Fate}
use Rattle.mt_outside.specs.declared.network.Peer.{Peer}
use Rattle.mt_model.specs.declared.limits.TheConstants.{LAST_OPERATIONAL_NODE, LAST_TIME, PAYLOAD_BYTES, RECEIVED_BYTES, LAST_CALLS, LAST_FABRIC}
use Rattle.mt_model.specs.declared.texts.recording.Event.{Event}
use Rattle.mt_model.specs.declared.texts.recording.Event.TheVariants.{Ask, Datagram, Tick, Report, Resend, Stop}
use Rattle.mt_model.specs.declared.texts.line_fault.LineKind.{LineKind}
use Rattle.mt_model.specs.declared.texts.line_fault.LineKind.TheVariants.{Form, Number, Hex}
use Rattle.mt_files.specs.Field.{fate_in, number_between, opcode_in, payload_in, payload_text, peer_in, peer_text}
use Rattle.mt_files.specs.Lines.{ended, fields_of, line_of, text_is}
use Rattle.mt_files.specs.Subject.{subject_in, subject_text}
use Rattle.mt_files.specs.declared.subject.Subject.{Subject}

-- fabric 0 asks with node 0 and no CAT, every other fabric with an operational node id
abbrev pub may_ask : ℕ → ℕ → List ℕ → Bool
may_ask fabric node cats =
    if fabric == 0 then node == 0 && list_all (λ cat. cat == 0) cats
    else nat_le 1 node && nat_le node LAST_OPERATIONAL_NODE

-- For each letter, what the line tells whose fields tell this. The first that is wrong decides, in
-- the order Form, Number, Hex.

abbrev pub ask_of : Option ℕ → Option ℕ → Option Subject → Option ℕ → Option (List ℕ) → Result Event LineKind
ask_of (Some ms) (Some fabric) (Some subject) (Some opcode) (Some payload) =
    if may_ask fabric subject.node subject.cats then Ok (Ask ms fabric subject.node subject.cats opcode payload) else Err Hex
ask_of (Some ms) (Some fabric) _ _ _ = Err Hex
ask_of _ _ _ _ _ = Err Number

abbrev pub datagram_of : Option ℕ → Option Peer → Option (List ℕ) → Result Event LineKind
datagram_of (Some ms) (Some peer) (Some bytes) = Ok (Datagram ms peer bytes)
datagram_of (Some ms) _ _ = Err Hex
datagram_of None _ _ = Err Number

abbrev pub tick_of : Option ℕ → Result Event LineKind
tick_of (Some ms) = Ok (Tick ms)
tick_of None = Err Number

abbrev pub report_of : Option ℕ → Option ℕ → Option ℕ → Result Event LineKind
report_of (Some ms) (Some fabric) (Some subscription) = Ok (Report ms fabric subscription)
report_of _ _ _ = Err Number

abbrev pub resend_of : Option ℕ → Option ℕ → Result Event LineKind
resend_of (Some ms) (Some session) = Ok (Resend ms session)
resend_of _ _ = Err Number

abbrev pub stop_of : Option ℕ → Option Fate → Result Event LineKind
stop_of (Some calls) (Some fate) = Ok (Stop calls fate)
stop_of None (Some fate) = Err Number
stop_of _ None = Err Form

-- The ranges of the decimal fields.

abbrev pub time_in : List ℕ → Option ℕ
time_in text = number_between 0 LAST_TIME text

abbrev pub fabric_in : List ℕ → Option ℕ
fabric_in text = number_between 0 LAST_FABRIC text

abbrev pub subscription_in : List ℕ → Option ℕ
subscription_in text = number_between 1 4294967295 text

abbrev pub session_in : List ℕ → Option ℕ
session_in text = number_between 1 65535 text

abbrev pub calls_in : List ℕ → Option ℕ
calls_in text = number_between 0 LAST_CALLS text

-- The lines of each letter, by the fields behind it.

-- `A ms fabric node opcode payload`: a plain actor asks
abbrev pub ask_in : List (List ℕ) → Result Event LineKind
ask_in (ms ∷ fabric ∷ subject ∷ opcode ∷ payload ∷ []) =
    ask_of (time_in ms) (fabric_in fabric) (subject_in subject) (opcode_in opcode) (payload_in PAYLOAD_BYTES payload)
ask_in fields = Err Form

-- `D ms peer bytes`: a datagram arrives
abbrev pub datagram_in : List (List ℕ) → Result Event LineKind
datagram_in (ms ∷ peer ∷ bytes ∷ []) = datagram_of (time_in ms) (peer_in peer) (payload_in RECEIVED_BYTES bytes)
datagram_in fields = Err Form

-- `T ms`: time goes on
abbrev pub tick_in : List (List ℕ) → Result Event LineKind
tick_in (ms ∷ []) = tick_of (time_in ms)
tick_in fields = Err Form

-- `R ms fabric subscription`: a subscription may report
abbrev pub report_in : List (List ℕ) → Result Event LineKind
report_in (ms ∷ fabric ∷ subscription ∷ []) = report_of (time_in ms) (fabric_in fabric) (subscription_in subscription)
report_in fields = Err Form

-- `M ms session`: a session may send again
abbrev pub resend_in : List (List ℕ) → Result Event LineKind
resend_in (ms ∷ session ∷ []) = resend_of (time_in ms) (session_in session)
resend_in fields = Err Form

-- `X calls fate`: the disk will stop
abbrev pub stop_in : List (List ℕ) → Result Event LineKind
stop_in (calls ∷ fate ∷ []) = stop_of (calls_in calls) (fate_in fate)
stop_in fields = Err Form

abbrev pub told_by : List ℕ → List (List ℕ) → Result Event LineKind
told_by letter fields =
    if text_is letter (codes "A") then ask_in fields
    else if text_is letter (codes "D") then datagram_in fields
    else if text_is letter (codes "T") then tick_in fields
    else if text_is letter (codes "R") then report_in fields
    else if text_is letter (codes "M") then resend_in fields
    else if text_is letter (codes "X") then stop_in fields
    else Err Form

abbrev pub told_in : List (List ℕ) → Result Event LineKind
told_in [] = Err Form
told_in (letter ∷ fields) = told_by letter fields

-- what a line tells, whatever the time
abbrev pub line_event : List ℕ → Result Event LineKind
line_event line = told_in (fields_of line)

-- How an event is written.

abbrev pub event_fields : Event → List (List ℕ)
event_fields (Ask ms fabric node cats opcode payload) =
    codes "A" ∷ decimal ms ∷ decimal fabric ∷ subject_text node cats ∷ encode_lower (opcode ∷ []) ∷ payload_text payload ∷ []
event_fields (Datagram ms peer bytes) = codes "D" ∷ decimal ms ∷ peer_text peer ∷ payload_text bytes ∷ []
event_fields (Tick ms) = codes "T" ∷ decimal ms ∷ []
event_fields (Report ms fabric subscription) = codes "R" ∷ decimal ms ∷ decimal fabric ∷ decimal subscription ∷ []
event_fields (Resend ms session) = codes "M" ∷ decimal ms ∷ decimal session ∷ []
event_fields (Stop calls fate) = codes "X" ∷ decimal calls ∷ fate_text fate ∷ []

-- the line of an event, without its end
abbrev pub event_line : Event → List ℕ
event_line event = line_of (event_fields event)

-- how many bytes it has, with its end
abbrev pub line_size : Event → ℕ
line_size event = length (ended (event_line event))

-- The same event at another time; a stop has none.
abbrev pub at_time : ℕ → Event → Event
at_time ms (Ask before fabric node cats opcode payload) = Ask ms fabric node cats opcode payload
at_time ms (Datagram before peer bytes) = Datagram ms peer bytes
at_time ms (Tick before) = Tick ms
at_time ms (Report before fabric subscription) = Report ms fabric subscription
at_time ms (Resend before session) = Resend ms session
at_time ms (Stop calls fate) = Stop calls fate
