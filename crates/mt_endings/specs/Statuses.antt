-- The rows of the table of statuses: what was read and written at each exit status, and which calls have failed.
use Rattle.std.specs.Prelude.{ℕ, ◌≡◌, ◌==◌, Bool, true, List, [], ◌∷◌, ◌++◌, Option, Some, None}
use Rattle.std.specs.List.{list_any}
use Rattle.mt_outside.specs.Stream.{IsProperPrefix, RoseByOne, Took, TookLess}
use Rattle.mt_model.specs.declared.limits.TheConstants.{CONFIGURATION_BYTES, RECORDING_BYTES}
use Rattle.mt_files.specs.Lines.{text_of}
use Rattle.mt_endings.specs.declared.fault.Fault.TheVariants.{BadWords, ReadFault, Memory}
use Rattle.mt_endings.specs.Faults.{fault_line}
use Rattle.mt_endings.specs.Endings.{Ending, Recordings, all_text, exit_status}
use Rattle.mt_endings.specs.Moments.{Moment, AreCalm, AreSourcesCalm, IsLeft, HasRead, Reads}

-- Statuses 0, 3, 4, 9, 10, 11, 15 and 16: no call has failed, the files were read, the status is that of the ending to which they come, and all
-- of it was written.
pub record Told (status : ℕ) (ending : List ℕ → Recordings → Ending) (old new : Moment) : Type 0 where
  pub config : List ℕ
  pub recordings : Recordings
  pub reads : Reads ending old new config recordings
  pub is : status ≡ exit_status (ending config recordings).fault
  pub calm : AreCalm old new
  pub written : Took old.written new.written (all_text (ending config recordings))

-- The line that tells want of memory is whole, and no call of the sink has failed; or one call has, and the line is cut off.
pub data TellsMemory (line : List ℕ) (old new : ℕ) : Type 0 where
  whole : line ≡ fault_line Memory → new ≡ old → TellsMemory line old new
  cut_short : IsProperPrefix line (fault_line Memory) → RoseByOne old new → TellsMemory line old new

-- Status 7: no source has failed. Some of the lines to which the files come were written, from the first on, each whole; and then the
-- fault line.
pub record NoMemory (ending : List ℕ → Recordings → Ending) (old new : Moment) : Type 0 where
  pub config : List ℕ
  pub recordings : Recordings
  pub config_left : IsLeft old.config.left config
  pub first_left : IsLeft old.first.left recordings.first
  pub second_left : IsLeft old.second.left recordings.second
  pub calm : AreSourcesCalm old new
  pub told : List (List ℕ)
  pub others : List (List ℕ)
  pub front : (ending config recordings).lines ≡ told ++ others
  pub last : List ℕ
  pub tells : TellsMemory last old.write_faults new.write_faults
  pub written : Took old.written new.written (text_of told ++ last)

-- One call of a source failed: of the configuration's, and no recording was read; or of the first recording's, behind a configuration
-- that is one, by a command that reads a recording, and the second was not read; or of the second's, behind a configuration and a first
-- recording that are ones, by a command that reads both.
pub data SourceFailed (ending : List ℕ → Recordings → Ending) (old new : Moment) : Type 0 where
  config_failed : RoseByOne old.config.faults new.config.faults → new.first ≡ old.first → new.second ≡ old.second → SourceFailed ending old new
  first_failed : (config : List ℕ) → HasRead CONFIGURATION_BYTES old.config new.config config → new.config.faults ≡ old.config.faults
      → ((recordings : Recordings) → (ending config recordings).reads_first ≡ true) → RoseByOne old.first.faults new.first.faults
      → new.second ≡ old.second → SourceFailed ending old new
  second_failed : (config first : List ℕ) → HasRead CONFIGURATION_BYTES old.config new.config config → new.config.faults ≡ old.config.faults
      → HasRead RECORDING_BYTES old.first new.first first → new.first.faults ≡ old.first.faults
      → ((second : List ℕ) → (ending config (record { first = first; second = second })).reads_second ≡ true)
      → RoseByOne old.second.faults new.second.faults → SourceFailed ending old new

-- Status 6: what could not be written whole. Less than all of it was.
pub data Cut (ending : List ℕ → Recordings → Ending) (old new : Moment) : Type 0 where
  -- all that the files come to
  text_cut : (config : List ℕ) (recordings : Recordings) → Reads ending old new config recordings → AreSourcesCalm old new → TookLess old.written new.written (all_text (ending config recordings)) → Cut ending old new
  -- the fault line of a source that failed
  read_fault_cut : SourceFailed ending old new → TookLess old.written new.written (fault_line ReadFault) → Cut ending old new

-- no file was read
abbrev pub ReadsNothing : Moment → Moment → Type 0
ReadsNothing old new = (new.config ≡ old.config) × (new.first ≡ old.first) × (new.second ≡ old.second)

-- that, or the fault line of words that have no form
abbrev pub CouldNotWrite : Option (List ℕ → Recordings → Ending) → Moment → Moment → Type 0
CouldNotWrite None old new = ReadsNothing old new × TookLess old.written new.written (fault_line BadWords)
CouldNotWrite (Some ending) old new = Cut ending old new

-- Status 7 where the words have no form, and there was no memory to find so: no file was read, and the fault line alone was written.
pub record WordsUnread (old new : Moment) : Type 0 where
  pub nothing : ReadsNothing old new
  pub last : List ℕ
  pub tells : TellsMemory last old.write_faults new.write_faults
  pub written : Took old.written new.written last

abbrev pub HadNoMemory : Option (List ℕ → Recordings → Ending) → Moment → Moment → Type 0
HadNoMemory None old new = WordsUnread old new
HadNoMemory (Some ending) old new = NoMemory ending old new

abbrev pub is_among : List ℕ → ℕ → Bool
is_among statuses status = list_any (λ one. one == status) statuses

-- the statuses of what the files come to
abbrev pub is_told : ℕ → Bool
is_told status = is_among (0 ∷ 3 ∷ 4 ∷ 9 ∷ 10 ∷ 11 ∷ 15 ∷ 16 ∷ []) status

abbrev pub is_status : ℕ → Bool
is_status status = is_among (0 ∷ 2 ∷ 3 ∷ 4 ∷ 5 ∷ 6 ∷ 7 ∷ 9 ∷ 10 ∷ 11 ∷ 15 ∷ 16 ∷ []) status
