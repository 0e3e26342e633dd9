-- Scripts: which texts they are, what they send, and the first fault of every other text.
use Rattle.std.specs.Prelude.{ℕ, ◌+◌, nat_lt, ◌||◌, Bool, List, [], ◌∷◌, length, Option, Some, None, Result, Ok, Err, if◌then◌else◌, codes}
use Rattle.std.specs.Option.{option_map}
use Rattle.mt_model.specs.declared.texts.line_fault.LineFault.{LineFault}
use Rattle.mt_model.specs.declared.texts.line_fault.LineFault.TheVariants.{Line, TooLong}
use Rattle.mt_model.specs.declared.texts.line_fault.LineKind.{LineKind}
use Rattle.mt_model.specs.declared.texts.line_fault.LineKind.TheVariants.{Head, Form, Number, Hex, Time}
use Rattle.mt_files.specs.Event.{time_in}
use Rattle.mt_files.specs.Field.{number_between, opcode_in, payload_in}
use Rattle.mt_files.specs.Lines.{fields_of, lines_of, text_is}
use Rattle.mt_files.specs.Told.{at_line, followed}
use Rattle.mt_ctl.specs.declared.steps.Kind.{Kind}
use Rattle.mt_ctl.specs.declared.steps.Kind.TheVariants.{New, Ours, Node}
use Rattle.mt_ctl.specs.declared.steps.Step.{Step}

-- Fields.

-- an exchange's id
abbrev pub exchange_in : List ℕ → Option ℕ
exchange_in text = number_between 0 65535 text

-- a message counter, or `-` where none is acknowledged
abbrev pub ack_in : List ℕ → Option (Option ℕ)
ack_in text = if text_is text (codes "-") then Some None else option_map Some (number_between 0 4294967295 text)

-- at most 1,198 bytes
abbrev pub step_payload_in : List ℕ → Option (List ℕ)
step_payload_in text = payload_in 1198 text

-- Lines, by the fields behind their letter. The first that is wrong decides, in the order Form, Number, Hex.

-- what a line sends whose fields tell this
abbrev pub sent_by : Option ℕ → Option Kind → Option ℕ → Option (List ℕ) → Result Step LineKind
sent_by (Some ms) (Some kind) (Some opcode) (Some payload) = Ok (record { ms = ms; kind = kind; opcode = opcode; payload = payload })
sent_by (Some ms) (Some kind) _ _ = Err Hex
sent_by _ _ _ _ = Err Number

-- on an exchange that the controller began
abbrev pub ours_of : Option ℕ → Option (Option ℕ) → Option Kind
ours_of (Some exchange) (Some ack) = Some (Ours exchange ack)
ours_of _ _ = None

-- on an exchange that the node began
abbrev pub node_of : Option ℕ → Option (Option ℕ) → Option Kind
node_of (Some exchange) (Some ack) = Some (Node exchange ack)
node_of _ _ = None

-- `Q ms opcode payload`: a request on a new exchange
abbrev pub request_in : List (List ℕ) → Result Step LineKind
request_in (ms ∷ opcode ∷ payload ∷ []) = sent_by (time_in ms) (Some New) (opcode_in opcode) (step_payload_in payload)
request_in fields = Err Form

-- `F ms exchange ack opcode payload`: a message on an exchange that the controller began
abbrev pub ours_in : List (List ℕ) → Result Step LineKind
ours_in (ms ∷ exchange ∷ ack ∷ opcode ∷ payload ∷ []) =
    sent_by (time_in ms) (ours_of (exchange_in exchange) (ack_in ack)) (opcode_in opcode) (step_payload_in payload)
ours_in fields = Err Form

-- `G ms exchange ack opcode payload`: a message on an exchange that the node began
abbrev pub node_in : List (List ℕ) → Result Step LineKind
node_in (ms ∷ exchange ∷ ack ∷ opcode ∷ payload ∷ []) =
    sent_by (time_in ms) (node_of (exchange_in exchange) (ack_in ack)) (opcode_in opcode) (step_payload_in payload)
node_in fields = Err Form

abbrev pub sent_on : List ℕ → List (List ℕ) → Result Step LineKind
sent_on letter fields =
    if text_is letter (codes "Q") then request_in fields
    else if text_is letter (codes "F") then ours_in fields
    else if text_is letter (codes "G") then node_in fields
    else Err Form

abbrev pub sent_in : List (List ℕ) → Result Step LineKind
sent_in [] = Err Form
sent_in (letter ∷ fields) = sent_on letter fields

-- what a line sends, whatever the time
abbrev pub line_step : List ℕ → Result Step LineKind
line_step line = sent_in (fields_of line)

-- The whole text.

-- the first line
abbrev pub head : List ℕ
head = codes "matter-script 1"

-- a step whose time is not below the time before it
abbrev pub in_time : ℕ → Result Step LineKind → Result Step LineKind
in_time before (Err kind) = Err kind
in_time before (Ok step) = if nat_lt step.ms before then Err Time else Ok step

-- whether the line of this number has more than 4,096 bytes, or is one of more than 65,536 lines
abbrev pub is_too_long : ℕ → List ℕ → Bool
is_too_long number line = nat_lt 4096 (length line) || nat_lt 65536 number

-- what the line of this number sends, behind lines up to this time
abbrev pub line_told : ℕ → ℕ → List ℕ → Result Step LineFault
line_told number before line = if is_too_long number line then Err TooLong else at_line number (in_time before (line_step line))

-- the steps of lines, the first of which has this number and stands behind this time, or the first fault
abbrev pub steps_from : ℕ → ℕ → List (List ℕ) → Result (List Step) LineFault
steps_from number before [] = Ok []
steps_from number before (line ∷ lines) = followed (line_told number before line) (λ step. steps_from (number + 1) step.ms lines)

-- the same for all lines, the head among them
abbrev pub steps_behind_head : List (List ℕ) → Result (List Step) LineFault
steps_behind_head [] = Err (Line 1 Head)
steps_behind_head (first ∷ lines) =
    if nat_lt 4096 (length first) then Err TooLong
    else if text_is first head then steps_from 2 0 lines
    else Err (Line 1 Head)

-- the steps of a script, or its first fault
abbrev pub script_of : List ℕ → Result (List Step) LineFault
script_of bytes = if nat_lt 16777216 (length bytes) then Err TooLong else steps_behind_head (lines_of bytes)
