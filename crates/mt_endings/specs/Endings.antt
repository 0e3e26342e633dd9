-- What a command comes to, by what its files hold: the lines that are written, the fault that ended it, and which recordings are read.
use Rattle.std.specs.Prelude.{ℕ, Bool, true, false, List, [], ◌++◌, Option, Some, None, Result, Ok, Err}
use Rattle.mt_config.specs.Configuration.{configuration}
use Rattle.mt_config.specs.declared.configuration.ConfigField.{ConfigField}
use Rattle.mt_files.specs.Lines.{text_of}
use Rattle.mt_files.specs.Recording.{recording_of}
use Rattle.mt_model.specs.declared.texts.line_fault.LineFault.{LineFault}
use Rattle.mt_model.specs.declared.texts.recording.Event.{Event}
use Rattle.mt_model.specs.texts.Contents.{Contents}
use Rattle.mt_endings.specs.Faults.{fault_line, fault_of, status_of}
use Rattle.mt_endings.specs.declared.fault.Fault.{Fault}
use Rattle.mt_endings.specs.declared.fault.Fault.TheVariants.{BadConfig}

-- The lines, without their ends, and then the fault, where there is one.
pub record Played : Type 0 where
  pub lines : List (List ℕ)
  pub fault : Option Fault

-- The same, and whether each recording is read for it.
pub record Ending : Type 0 where
  pub lines : List (List ℕ)
  pub fault : Option Fault
  pub reads_first : Bool
  pub reads_second : Bool

-- The bytes of the two recordings. A command that reads one alone reads the first, and so does one that reads another text.
pub record Recordings : Type 0 where
  pub first : List ℕ
  pub second : List ℕ

abbrev pub last_line : Option Fault → List ℕ
last_line None = []
last_line (Some fault) = fault_line fault

abbrev pub exit_status : Option Fault → ℕ
exit_status None = 0
exit_status (Some fault) = status_of fault

-- all that is written: each line with its end, and the last line
abbrev pub all_text : Ending → List ℕ
all_text ending = text_of ending.lines ++ last_line ending.fault

-- with one recording that is read, with none, and with both
abbrev pub with_recording : Played → Ending
with_recording played = record { lines = played.lines; fault = played.fault; reads_first = true; reads_second = false }

abbrev pub without_recording : Played → Ending
without_recording played = record { lines = played.lines; fault = played.fault; reads_first = false; reads_second = false }

abbrev pub with_recordings : Played → Ending
with_recordings played = record { lines = played.lines; fault = played.fault; reads_first = true; reads_second = true }

-- nothing is written but the fault
abbrev pub nothing_but : Fault → Played
nothing_but fault = record { lines = []; fault = Some fault }

-- A configuration comes before all else.
abbrev pub configured : (Contents → Ending) → Result Contents ConfigField → Ending
configured comes_to (Ok contents) = comes_to contents
configured comes_to (Err field) = without_recording (nothing_but (BadConfig field))

-- A recording is checked whole before its events come to anything.
abbrev pub recorded : (List Event → Played) → Result (List Event) LineFault → Ending
recorded come_to (Ok events) = with_recording (come_to events)
recorded come_to (Err fault) = with_recording (nothing_but (fault_of fault))

-- the same of the second, behind a first that is one
abbrev pub recorded_second : (List Event → Played) → Result (List Event) LineFault → Ending
recorded_second come_to (Ok others) = with_recordings (come_to others)
recorded_second come_to (Err fault) = with_recordings (nothing_but (fault_of fault))

-- The first comes before the second, which is not looked at where the first is none.
abbrev pub recorded_both : (List Event → List Event → Played) → Result (List Event) LineFault → Result (List Event) LineFault → Ending
recorded_both come_to (Ok events) second = recorded_second (come_to events) second
recorded_both come_to (Err fault) second = with_recording (nothing_but (fault_of fault))

-- What a command comes to by the bytes of the configuration and of the recordings, where with what the configuration says it comes to this by
-- those of the recordings.
abbrev pub of_files : (Contents → Recordings → Ending) → List ℕ → Recordings → Ending
of_files comes_to config recordings = configured (λ (contents : Contents). comes_to contents recordings) (configuration config)

-- the same with a configuration in hand, where no file is read for it
abbrev pub in_hand_of : (Recordings → Ending) → List ℕ → Recordings → Ending
in_hand_of comes_to config recordings = comes_to recordings

-- by the bytes of the first recording, where its events come to this
abbrev pub of_recording : (List Event → Played) → Recordings → Ending
of_recording come_to recordings = recorded come_to (recording_of recordings.first)

-- by the bytes of both, where their events come to this
abbrev pub of_recordings : (List Event → List Event → Played) → Recordings → Ending
of_recordings come_to recordings = recorded_both come_to (recording_of recordings.first) (recording_of recordings.second)

-- by the bytes of the first, where these come to this, be they a recording or another text
abbrev pub of_text : (List ℕ → Played) → Recordings → Ending
of_text come_to recordings = with_recording (come_to recordings.first)

-- where no recording is read
abbrev pub of_none : Played → Recordings → Ending
of_none played recordings = without_recording played
