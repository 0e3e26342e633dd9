-- Recordings: which texts they are, what events they tell, and the first fault of every other text.
use Rattle.std.specs.Prelude.{◌≡◌, ◌≤◌, ℕ, ◌+◌, nat_lt, ◌||◌, Bool, List, [], ◌∷◌, length, map, Result, Ok, Err, if◌then◌else◌, codes, All}
use Rattle.std.specs.List.{filter_map}
use Rattle.std.specs.List.Sorted.{IsNonDecreasing}
use Rattle.std.specs.Option.{option_map_or}
use Rattle.mt_model.specs.declared.limits.TheConstants.{LINE_BYTES, RECORDING_BYTES, RECORDING_LINES}
use Rattle.mt_model.specs.texts.Events.{event_time}
use Rattle.mt_model.specs.declared.texts.recording.Event.{Event}
use Rattle.mt_model.specs.declared.texts.line_fault.LineFault.{LineFault}
use Rattle.mt_model.specs.declared.texts.line_fault.LineFault.TheVariants.{Line, TooLong}
use Rattle.mt_model.specs.declared.texts.line_fault.LineKind.{LineKind}
use Rattle.mt_model.specs.declared.texts.line_fault.LineKind.TheVariants.{Head, Time}
use Rattle.mt_files.specs.Event.{event_line, line_event}
use Rattle.mt_files.specs.Lines.{lines_of, text_is, text_of}
use Rattle.mt_files.specs.Told.{at_line, followed}

-- the first line
abbrev pub head : List ℕ
head = codes "matter-record 1"

-- the time as of an event, where this is the time before it
abbrev pub time_at : ℕ → Event → ℕ
time_at before event = option_map_or (λ ms. ms) (event_time event) before

-- an event whose time is not below the time before it
abbrev pub in_time : ℕ → Result Event LineKind → Result Event LineKind
in_time before (Err kind) = Err kind
in_time before (Ok event) = if nat_lt (time_at before event) before then Err Time else Ok event

-- whether the line of this number has too many bytes, or is one event line too many
abbrev pub is_too_long : ℕ → List ℕ → Bool
is_too_long number line = nat_lt LINE_BYTES (length line) || nat_lt (RECORDING_LINES + 1) number

-- what the line of this number tells, behind lines up to this time
abbrev pub line_told : ℕ → ℕ → List ℕ → Result Event LineFault
line_told number before line = if is_too_long number line then Err TooLong else at_line number (in_time before (line_event line))

-- the events of lines, the first of which has this number and stands behind this time, or the first fault
abbrev pub events_from : ℕ → ℕ → List (List ℕ) → Result (List Event) LineFault
events_from number before [] = Ok []
events_from number before (line ∷ lines) = followed (line_told number before line) (λ event. events_from (number + 1) (time_at before event) lines)

-- the same for all lines, the head among them
abbrev pub events_behind_head : List (List ℕ) → Result (List Event) LineFault
events_behind_head [] = Err (Line 1 Head)
events_behind_head (first ∷ lines) =
    if nat_lt LINE_BYTES (length first) then Err TooLong
    else if text_is first head then events_from 2 0 lines
    else Err (Line 1 Head)

-- the events of a recording, or its first fault
abbrev pub recording_of : List ℕ → Result (List Event) LineFault
recording_of bytes = if nat_lt RECORDING_BYTES (length bytes) then Err TooLong else events_behind_head (lines_of bytes)

-- The bytes are a recording of these events: the head, then a line for each.
pub record IsRecording (bytes : List ℕ) (events : List Event) : Type 0 where
  pub lines : List (List ℕ)
  pub text : lines_of bytes ≡ head ∷ lines
  pub told : map line_event lines ≡ map Ok events
  pub times : IsNonDecreasing (filter_map event_time events)
  pub short : length bytes ≤ RECORDING_BYTES
  pub short_lines : All (λ line. length line ≤ LINE_BYTES) lines
  pub few_lines : length lines ≤ RECORDING_LINES

-- the text of a recording as it is written
abbrev pub recording_text : List Event → List ℕ
recording_text events = text_of (head ∷ map event_line events)
