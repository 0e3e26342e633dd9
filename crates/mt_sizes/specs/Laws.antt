-- How long the lines of a recording are, each with its end.
use Rattle.std.specs.Prelude.{◌≡◌, ◌≤◌, ℕ, ◌+◌, List, length}
use Rattle.std.specs.List.{sum_by}
use Rattle.mt_model.specs.declared.limits.TheConstants.{LAST_TIME}
use Rattle.mt_model.specs.declared.texts.recording.Event.{Event}
use Rattle.mt_model.specs.declared.texts.recording.Event.TheVariants.{Ask, Datagram, Tick, Report, Resend, Stop}
use Rattle.mt_files.specs.Event.{at_time, line_size}
use Rattle.mt_files.specs.Form.{HasForm, IsEvent}
use Rattle.mt_files.specs.Recording.{recording_text}

-- at most so many bytes: the line of a message carries it in hex, and the line of a step has a letter and up to three numbers
abbrev pub most_bytes : Event → ℕ
most_bytes (Ask ms fabric node cats opcode payload) = 2640
most_bytes (Datagram ms peer bytes) = 2620
most_bytes (Tick ms) = 40
most_bytes (Report ms fabric subscription) = 40
most_bytes (Resend ms session) = 40
most_bytes (Stop calls fate) = 40

pub record LinesAreShort : Type 0 where
  -- an event within its types and the ranges of the format has a short line,
  pub short : (event : Event) → IsEvent event → HasForm event → line_size event ≤ most_bytes event
  -- and stays so at each time that a recording can have;
  pub moved : (ms : ℕ) (event : Event) → ms ≤ LAST_TIME → IsEvent event → HasForm event → IsEvent (at_time ms event) × HasForm (at_time ms event)
  -- the text of a recording is its head of 16 bytes, and its lines.
  pub whole : (events : List Event) → length (recording_text events) ≡ 16 + sum_by line_size events
