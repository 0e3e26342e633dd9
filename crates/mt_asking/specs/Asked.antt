-- What a script comes to that is asked on a session, and an output that is shown of it.
use Rattle.std.specs.Prelude.{ℕ, List, ◌∷◌, Option, Some, None, Result, Ok, Err, map}
use Rattle.mt_ctl.specs.Asking.{asked, exhausted_line}
use Rattle.mt_ctl.specs.Script.{script_of}
use Rattle.mt_ctl.specs.Showing.{shown}
use Rattle.mt_ctl.specs.Text.{shown_line}
use Rattle.mt_ctl.specs.declared.steps.Step.{Step}
use Rattle.mt_files.specs.Event.{event_line}
use Rattle.mt_files.specs.Output.{output_of}
use Rattle.mt_files.specs.Recording.{head}
use Rattle.mt_model.specs.declared.texts.config.SessionRow.{SessionRow}
use Rattle.mt_model.specs.declared.texts.line_fault.LineFault.{LineFault}
use Rattle.mt_model.specs.declared.texts.recording.Event.{Event}
use Rattle.mt_model.specs.declared.texts.recording.Sent.{Sent}
use Rattle.mt_model.specs.texts.Contents.{Contents}
use Rattle.mt_endings.specs.Endings.{Ending, Played, Recordings, nothing_but, of_none, of_text}
use Rattle.mt_endings.specs.Faults.{fault_of}
use Rattle.mt_endings.specs.declared.fault.Fault.TheVariants.{Exhausted, NoSession}
use Rattle.mt_asking.specs.Rows.{row_of}

-- What a text comes to by the row of the session that is named. Where none is, no text is read.
abbrev pub on_session : (SessionRow → List ℕ → Played) → Option SessionRow → Recordings → Ending
on_session come_to None = of_none (nothing_but NoSession)
on_session come_to (Some row) = of_text (come_to row)

-- ASK: the recording of what a controller sends for a script.

-- the head, and a line for each event
abbrev pub recorded : List Event → Played
recorded events = record { lines = head ∷ map event_line events; fault = None }

-- no counter is left for the message of a line, or for each there is
abbrev pub recorded_unless : Option ℕ → List Event → Played
recorded_unless None events = recorded events
recorded_unless (Some line) events = nothing_but (Exhausted line)

abbrev pub asked_by : SessionRow → Result (List Step) LineFault → Played
asked_by row (Ok steps) = recorded_unless (exhausted_line row steps) (asked row steps)
asked_by row (Err fault) = nothing_but (fault_of fault)

-- by the bytes of a script
abbrev pub asked_on : SessionRow → List ℕ → Played
asked_on row script = asked_by row (script_of script)

abbrev pub asking : ℕ → Contents → Recordings → Ending
asking session contents = on_session asked_on (row_of session contents)

-- SHOW: a line for each datagram of an output, opened by the other side.

abbrev pub shown_by : SessionRow → Result (List Sent) LineFault → Played
shown_by row (Ok sent) = record { lines = map shown_line (shown row sent); fault = None }
shown_by row (Err fault) = nothing_but (fault_of fault)

-- by the bytes of an output
abbrev pub shown_on : SessionRow → List ℕ → Played
shown_on row output = shown_by row (output_of output)

abbrev pub showing : ℕ → Contents → Recordings → Ending
showing session contents = on_session shown_on (row_of session contents)
