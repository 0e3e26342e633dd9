-- The parts of a run: what holds where one of them stops.
use Rattle.std.specs.Prelude.{ℕ, ◌≡◌, ◌<◌, ◌++◌, Bool, true, false, List, [], length, Option, Some, None, Ok, Err, ⊤}
use Rattle.mt_outside.specs.Stream.{RoseByOne, Took, TookLess}
use Rattle.mt_model.specs.declared.texts.config.Config.{Config}
use Rattle.mt_model.specs.declared.limits.TheConstants.{CONFIGURATION_BYTES, RECORDING_BYTES}
use Rattle.mt_model.specs.declared.texts.recording.Event.{Event}
use Rattle.mt_config.specs.Configuration.{IsConfiguration, configuration}
use Rattle.mt_files.specs.Lines.{text_of}
use Rattle.mt_files.specs.Recording.{recording_of}
use Rattle.mt_model.specs.declared.texts.line_fault.LineFault.{LineFault}
use Rattle.mt_endings.specs.declared.fault.Fault.{Fault}
use Rattle.mt_endings.specs.declared.fault.Fault.TheVariants.{BadWords, BadConfig, ReadFault, WriteFault, Memory, DiskFault, TooLong, Differ}
use Rattle.mt_endings.specs.Faults.{fault_line, fault_of, status_of}
use Rattle.mt_endings.specs.Endings.{Ending, Played, Recordings, nothing_but, without_recording}
use Rattle.mt_endings.specs.Moments.{Input, Moment, AreCalm, AreSourcesCalm, HasRead, HasSinkFailed, IsLeft, IsSinkCalm, Reads}
use Rattle.mt_endings.specs.Statuses.{SourceFailed, TellsMemory}

-- some of the lines, from the first on, were written, each whole
abbrev pub TookFirst : Option (List ℕ) → Option (List ℕ) → List (List ℕ) → Type 0
TookFirst before after all = (told : List (List ℕ)) × (others : List (List ℕ)) × (all ≡ told ++ others) × Took before after (text_of told)

-- so it is with the lines to which the files come
abbrev pub Fronts : (List ℕ → Recordings → Ending) → Moment → Moment → Type 0
Fronts ending old new = (config : List ℕ) × (recordings : Recordings) × IsLeft old.config.left config × IsLeft old.first.left recordings.first × IsLeft old.second.left recordings.second × TookFirst old.written new.written (ending config recordings).lines

-- Why a run stops before the last line is written: the lines to which the files come are written, and the
-- fault is theirs; or there is another cause.
abbrev pub Stops : Fault → (List ℕ → Recordings → Ending) → Moment → Moment → Type 0
Stops BadWords ending old new = ⊥
Stops ReadFault ending old new = SourceFailed ending old new × Took old.written new.written []
Stops WriteFault ending old new = HasSinkFailed old new × ((config : List ℕ) × (recordings : Recordings) × Reads ending old new config recordings × TookLess old.written new.written (text_of (ending config recordings).lines))
Stops Memory ending old new = Fronts ending old new
Stops (BadConfig field) ending old new = (config : List ℕ) × HasRead CONFIGURATION_BYTES old.config new.config config × ((recordings : Recordings) → ending config recordings ≡ without_recording (nothing_but (BadConfig field))) × (new.first ≡ old.first) × (new.second ≡ old.second) × Took old.written new.written []
Stops fault ending old new = (config : List ℕ) × (recordings : Recordings) × Reads ending old new config recordings × ((ending config recordings).fault ≡ Some fault) × Took old.written new.written (text_of (ending config recordings).lines)

-- what has not failed where a run stops
abbrev pub StopsCalmly : Fault → Moment → Moment → Type 0
StopsCalmly ReadFault old new = IsSinkCalm old new
StopsCalmly WriteFault old new = AreSourcesCalm old new
StopsCalmly fault old new = AreCalm old new

-- the files were read, no call has failed, and all to which they come was written
abbrev pub Done : (List ℕ → Recordings → Ending) → Moment → Moment → Type 0
Done ending old new = (config : List ℕ) × (recordings : Recordings) × Reads ending old new config recordings × ((ending config recordings).fault ≡ None) × AreCalm old new × Took old.written new.written (text_of (ending config recordings).lines)

-- events were played to their end
abbrev pub PlayedTo : Played → Option (List ℕ) → Option (List ℕ) → Type 0
PlayedTo ending before after = (ending.fault ≡ None) × Took before after (text_of ending.lines)

-- whether the sink is the cause
abbrev pub is_write_fault : Fault → Bool
is_write_fault WriteFault = true
is_write_fault fault = false

-- whether a source is
abbrev pub is_read_fault : Fault → Bool
is_read_fault ReadFault = true
is_read_fault fault = false

-- Why playing events stops, or telling what a text or a journal comes to. Where it comes to a fault, as recordings that differ do or a journal that is
-- none, the lines before that were written.
abbrev pub StopsPlaying : Fault → Played → Option (List ℕ) → Option (List ℕ) → ℕ → ℕ → Type 0
StopsPlaying WriteFault ending before after old new = RoseByOne old new × TookLess before after (text_of ending.lines)
StopsPlaying Memory ending before after old new = TookFirst before after ending.lines
StopsPlaying BadWords ending before after old new = ⊥
StopsPlaying (BadConfig field) ending before after old new = ⊥
StopsPlaying ReadFault ending before after old new = ⊥
StopsPlaying DiskFault ending before after old new = ⊥
StopsPlaying fault ending before after old new = (ending.fault ≡ Some fault) × Took before after (text_of ending.lines)

-- the source held this configuration
abbrev pub Configured : Config → Input → Input → Type 0
Configured config old new = (bytes : List ℕ) × HasRead CONFIGURATION_BYTES old new bytes × IsConfiguration bytes config

-- the source held this recording
abbrev pub Recorded : List Event → Input → Input → Type 0
Recorded events old new = (bytes : List ℕ) × HasRead RECORDING_BYTES old new bytes × (recording_of bytes ≡ Ok events)

-- why a recording is not played: the source failed, there was no memory, or it is none
abbrev pub StopsRecording : Fault → Input → Input → Type 0
StopsRecording ReadFault old new = RoseByOne old.faults new.faults
StopsRecording Memory old new = ⊤
StopsRecording fault old new = (refused : LineFault) × (fault ≡ fault_of refused) × ((bytes : List ℕ) × HasRead RECORDING_BYTES old new bytes × (recording_of bytes ≡ Err refused))

-- why a text is not read to its end: the source failed, there was no memory, or it has more bytes than a recording may have
abbrev pub StopsReading : Fault → Input → Input → Type 0
StopsReading ReadFault old new = RoseByOne old.faults new.faults
StopsReading Memory old new = ⊤
StopsReading TooLong old new = (bytes : List ℕ) × HasRead RECORDING_BYTES old new bytes × (RECORDING_BYTES < length bytes)
StopsReading fault old new = ⊥

-- why a configuration is not read
abbrev pub StopsConfiguring : Fault → Input → Input → Type 0
StopsConfiguring ReadFault old new = RoseByOne old.faults new.faults
StopsConfiguring Memory old new = ⊤
StopsConfiguring (BadConfig field) old new = (bytes : List ℕ) × HasRead CONFIGURATION_BYTES old new bytes × (configuration bytes ≡ Err field)
StopsConfiguring fault old new = ⊥

-- want of memory keeps its status where its line can't be written
abbrev pub is_memory : Fault → Bool
is_memory Memory = true
is_memory fault = false

-- Whether telling a fault wants no memory: a source or a disk that failed, and recordings that differ; and where the sink failed nothing
-- is told.
abbrev pub wants_no_memory : Fault → Bool
wants_no_memory ReadFault = true
wants_no_memory WriteFault = true
wants_no_memory DiskFault = true
wants_no_memory Differ = true
wants_no_memory fault = false

-- some line that tells want of memory was written
abbrev pub TellsThere : Option (List ℕ) → Option (List ℕ) → ℕ → ℕ → Type 0
TellsThere before after old new = (line : List ℕ) × TellsMemory line old new × Took before after line

-- the line of a fault was written, with its status, or the sink failed at it
pub data IsTold (fault : Fault) (status : ℕ) (before after : Option (List ℕ)) (old new : ℕ) : Type 0 where
  whole_line : status ≡ status_of fault → new ≡ old → Took before after (fault_line fault) → IsTold fault status before after old new
  part_of_line : status ≡ 6 → RoseByOne old new → TookLess before after (fault_line fault) → IsTold fault status before after old new

-- How a run ends that a fault stopped: its line was written, or the sink failed; or there was no memory, or none for the
-- line, where that wants some; or the sink had failed, and no more was written.
pub data Finishes (fault : Fault) (status : ℕ) (before after : Option (List ℕ)) (old new : ℕ) : Type 0 where
  told_line : is_memory fault ≡ false → is_write_fault fault ≡ false → IsTold fault status before after old new → Finishes fault status before after old new
  no_memory : wants_no_memory fault ≡ false → status ≡ 7 → TellsThere before after old new → Finishes fault status before after old new
  no_sink : fault ≡ WriteFault → status ≡ 6 → after ≡ before → new ≡ old → Finishes fault status before after old new
