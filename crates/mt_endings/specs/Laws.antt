-- From what stopped a run, and how that was told, to the end of the run.
use Rattle.std.specs.Prelude.{◌≡◌, ◌<◌, ℕ, false, List, length, Option, Some, None, Ok}
use Rattle.mt_config.specs.Configuration.{configuration}
use Rattle.mt_model.specs.declared.limits.TheConstants.{CONFIGURATION_BYTES, RECORDING_BYTES}
use Rattle.mt_model.specs.declared.texts.recording.Event.{Event}
use Rattle.mt_model.specs.texts.Contents.{Contents}
use Rattle.mt_endings.specs.declared.fault.Fault.{Fault}
use Rattle.mt_endings.specs.declared.fault.Fault.TheVariants.{BadWords, TooLong}
use Rattle.mt_endings.specs.Endings.{Ending, Played, Recordings, in_hand_of, nothing_but, of_files, of_none, of_recording, of_recordings, of_text}
use Rattle.mt_endings.specs.Moments.{HasRead, Input, Moment, in_hand, moment}
use Rattle.mt_endings.specs.Parts.{Finishes, IsTold, PlayedTo, Recorded, StopsConfiguring, StopsPlaying, StopsReading, StopsRecording, TellsThere, is_read_fault, is_write_fault}
use Rattle.mt_endings.specs.Run.{Ends}

pub record EndingLaws : Type 0 where
  -- the words have no form, and that was told
  pub no_form : (old : Moment) (after : Option (List ℕ)) (faults status : ℕ) → IsTold BadWords status old.written after old.write_faults faults → Ends status None old (moment old.config old.first old.second after faults)
  -- there was no memory before anything was read
  pub no_memory : (asked : Option (List ℕ → Recordings → Ending)) (old : Moment) (after : Option (List ℕ)) (faults : ℕ) → TellsThere old.written after old.write_faults faults → Ends 7 asked old (moment old.config old.first old.second after faults)
  -- there was no configuration
  pub unconfigured : (comes_to : Contents → Recordings → Ending) (fault : Fault) (status : ℕ) (old now first second : Input) (before after : Option (List ℕ)) (old_faults new_faults : ℕ)
      → StopsConfiguring fault old now → (is_read_fault fault ≡ false → now.faults ≡ old.faults) → Finishes fault status before after old_faults new_faults
      → Ends status (Some (of_files comes_to)) (moment old first second before old_faults) (moment now first second after new_faults)
  -- a run with a configuration in hand is one behind the reading of it
  pub configured : (comes_to : Contents → Recordings → Ending) (contents : Contents) (bytes : List ℕ) (old now first_old first_new second_old second_new : Input) (before after : Option (List ℕ)) (old_faults new_faults status : ℕ)
      → configuration bytes ≡ Ok contents → HasRead CONFIGURATION_BYTES old now bytes → now.faults ≡ old.faults
      → Ends status (Some (in_hand_of (comes_to contents))) (moment in_hand first_old second_old before old_faults) (moment in_hand first_new second_new after new_faults)
      → Ends status (Some (of_files comes_to)) (moment old first_old second_old before old_faults) (moment now first_new second_new after new_faults)
  -- Of a command that reads one recording: there was none,
  pub unrecorded : (come_to : List Event → Played) (fault : Fault) (status : ℕ) (old now second : Input) (before after : Option (List ℕ)) (old_faults new_faults : ℕ)
      → StopsRecording fault old now → (is_read_fault fault ≡ false → now.faults ≡ old.faults) → Finishes fault status before after old_faults new_faults
      → Ends status (Some (in_hand_of (of_recording come_to))) (moment in_hand old second before old_faults) (moment in_hand now second after new_faults)
  -- its events were played to their end,
  pub played : (come_to : List Event → Played) (events : List Event) (old now second : Input) (before after : Option (List ℕ)) (old_faults new_faults : ℕ)
      → Recorded events old now → now.faults ≡ old.faults → PlayedTo (come_to events) before after → new_faults ≡ old_faults
      → Ends 0 (Some (in_hand_of (of_recording come_to))) (moment in_hand old second before old_faults) (moment in_hand now second after new_faults)
  -- or they were not.
  pub stopped : (come_to : List Event → Played) (events : List Event) (fault : Fault) (status : ℕ) (old now second : Input) (before between after : Option (List ℕ)) (old_faults faults new_faults : ℕ)
      → Recorded events old now → now.faults ≡ old.faults → StopsPlaying fault (come_to events) before between old_faults faults → (is_write_fault fault ≡ false → faults ≡ old_faults) → Finishes fault status between after faults new_faults
      → Ends status (Some (in_hand_of (of_recording come_to))) (moment in_hand old second before old_faults) (moment in_hand now second after new_faults)
  -- Of a command that reads two: there was no first,
  pub first_unrecorded : (come_to : List Event → List Event → Played) (fault : Fault) (status : ℕ) (old now second : Input) (before after : Option (List ℕ)) (old_faults new_faults : ℕ)
      → StopsRecording fault old now → (is_read_fault fault ≡ false → now.faults ≡ old.faults) → Finishes fault status before after old_faults new_faults
      → Ends status (Some (in_hand_of (of_recordings come_to))) (moment in_hand old second before old_faults) (moment in_hand now second after new_faults)
  -- there was no second,
  pub second_unrecorded : (come_to : List Event → List Event → Played) (events : List Event) (fault : Fault) (status : ℕ) (first_old first_now old now : Input) (before after : Option (List ℕ)) (old_faults new_faults : ℕ)
      → Recorded events first_old first_now → first_now.faults ≡ first_old.faults → StopsRecording fault old now → (is_read_fault fault ≡ false → now.faults ≡ old.faults) → Finishes fault status before after old_faults new_faults
      → Ends status (Some (in_hand_of (of_recordings come_to))) (moment in_hand first_old old before old_faults) (moment in_hand first_now now after new_faults)
  -- the events of both were played to their end,
  pub both_played : (come_to : List Event → List Event → Played) (events others : List Event) (first_old first_now old now : Input) (before after : Option (List ℕ)) (old_faults new_faults : ℕ)
      → Recorded events first_old first_now → first_now.faults ≡ first_old.faults → Recorded others old now → now.faults ≡ old.faults → PlayedTo (come_to events others) before after → new_faults ≡ old_faults
      → Ends 0 (Some (in_hand_of (of_recordings come_to))) (moment in_hand first_old old before old_faults) (moment in_hand first_now now after new_faults)
  -- or they were not.
  pub both_stopped : (come_to : List Event → List Event → Played) (events others : List Event) (fault : Fault) (status : ℕ) (first_old first_now old now : Input) (before between after : Option (List ℕ)) (old_faults faults new_faults : ℕ)
      → Recorded events first_old first_now → first_now.faults ≡ first_old.faults → Recorded others old now → now.faults ≡ old.faults
      → StopsPlaying fault (come_to events others) before between old_faults faults → (is_write_fault fault ≡ false → faults ≡ old_faults) → Finishes fault status between after faults new_faults
      → Ends status (Some (in_hand_of (of_recordings come_to))) (moment in_hand first_old old before old_faults) (moment in_hand first_now now after new_faults)
  -- Of a command that reads another text: it was not read to its end, where too many bytes are told before all else,
  pub text_unread : (come_to : List ℕ → Played) (fault : Fault) (status : ℕ) (old now second : Input) (before after : Option (List ℕ)) (old_faults new_faults : ℕ)
      → ((bytes : List ℕ) → RECORDING_BYTES < length bytes → come_to bytes ≡ nothing_but TooLong)
      → StopsReading fault old now → (is_read_fault fault ≡ false → now.faults ≡ old.faults) → Finishes fault status before after old_faults new_faults
      → Ends status (Some (in_hand_of (of_text come_to))) (moment in_hand old second before old_faults) (moment in_hand now second after new_faults)
  -- what it comes to was written,
  pub text_told : (come_to : List ℕ → Played) (bytes : List ℕ) (old now second : Input) (before after : Option (List ℕ)) (old_faults new_faults : ℕ)
      → HasRead RECORDING_BYTES old now bytes → now.faults ≡ old.faults → PlayedTo (come_to bytes) before after → new_faults ≡ old_faults
      → Ends 0 (Some (in_hand_of (of_text come_to))) (moment in_hand old second before old_faults) (moment in_hand now second after new_faults)
  -- or it was not.
  pub text_stopped : (come_to : List ℕ → Played) (bytes : List ℕ) (fault : Fault) (status : ℕ) (old now second : Input) (before between after : Option (List ℕ)) (old_faults faults new_faults : ℕ)
      → HasRead RECORDING_BYTES old now bytes → now.faults ≡ old.faults → StopsPlaying fault (come_to bytes) before between old_faults faults → (is_write_fault fault ≡ false → faults ≡ old_faults) → Finishes fault status between after faults new_faults
      → Ends status (Some (in_hand_of (of_text come_to))) (moment in_hand old second before old_faults) (moment in_hand now second after new_faults)
  -- what was made of a configuration alone was written, or was not
  pub made : (all : Played) (first second : Input) (before after : Option (List ℕ)) (old_faults new_faults : ℕ)
      → PlayedTo all before after → new_faults ≡ old_faults → Ends 0 (Some (in_hand_of (of_none all))) (moment in_hand first second before old_faults) (moment in_hand first second after new_faults)
  pub unmade : (all : Played) (fault : Fault) (status : ℕ) (first second : Input) (before between after : Option (List ℕ)) (old_faults faults new_faults : ℕ)
      → StopsPlaying fault all before between old_faults faults → (is_write_fault fault ≡ false → faults ≡ old_faults) → Finishes fault status between after faults new_faults
      → Ends status (Some (in_hand_of (of_none all))) (moment in_hand first second before old_faults) (moment in_hand first second after new_faults)
