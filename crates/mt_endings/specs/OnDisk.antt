-- How a run ends that looks at a journal on a disk.
use Rattle.std.specs.Prelude.{◌≡◌, ℕ, true, false, List, Option, Some, None, Ok}
use Rattle.mt_outside.specs.Stream.{RoseByOne}
use Rattle.mt_model.specs.declared.limits.TheConstants.{CONFIGURATION_BYTES}
use Rattle.mt_model.specs.texts.Contents.{Contents}
use Rattle.mt_config.specs.Configuration.{configuration}
use Rattle.mt_endings.specs.declared.fault.Fault.{Fault}
use Rattle.mt_endings.specs.declared.fault.Fault.TheVariants.{DiskFault}
use Rattle.mt_endings.specs.Faults.{status_of}
use Rattle.mt_endings.specs.Endings.{Ending, Played, Recordings, in_hand_of, of_files, of_none}
use Rattle.mt_endings.specs.Moments.{AreSourcesCalm, HasRead, Input, Moment, in_hand, moment}
use Rattle.mt_endings.specs.Parts.{Finishes, IsTold, PlayedTo, StopsPlaying, is_write_fault}
use Rattle.mt_endings.specs.Run.{Ends}
use Rattle.mt_endings.specs.Statuses.{is_status}

-- What is asked for comes to an ending by the bytes of the files; or by those of a journal too, which are told first.
pub data Asks : Type 0 where
  of_files_alone : (List ℕ → Recordings → Ending) → Asks
  of_journal : (List ℕ → List ℕ → Recordings → Ending) → Asks

-- One call of the disk has failed, behind a configuration that is one, and no recording was read. The disk's contents are as they were.
pub record DiskFailed (before after : Input) (old new : Moment) : Type 0 where
  pub config : List ℕ
  pub contents : Contents
  pub read : HasRead CONFIGURATION_BYTES old.config new.config config
  pub is : configuration config ≡ Ok contents
  pub rose : RoseByOne before.faults after.faults
  pub kept : after.left ≡ before.left
  pub calm : AreSourcesCalm old new
  pub first : new.first ≡ old.first
  pub second : new.second ≡ old.second

-- No call of the disk has failed, and by the journal's bytes the run ends as one does that looks at no disk; or one call has, and that was
-- told. Of a disk that does not tell its contents it is only known which statuses there are.
pub data EndsOnDisk (status : ℕ) (comes_to : List ℕ → List ℕ → Recordings → Ending) (before after : Input) (old new : Moment) : Type 0 where
  none_failed : after ≡ before → is_status status ≡ true → ((journal : List ℕ) → before.left ≡ Some journal → Ends status (Some (comes_to journal)) old new)
      → EndsOnDisk status comes_to before after old new
  one_failed : DiskFailed before after old new → IsTold DiskFault status old.written new.written old.write_faults new.write_faults
      → EndsOnDisk status comes_to before after old new

-- the run whose words ask for this, None where they have no form; where they ask for no journal, the disk is as it was
abbrev pub EndsAs : ℕ → Option Asks → Input → Input → Moment → Moment → Type 0
EndsAs status None before after old new = Ends status None old new × (after ≡ before)
EndsAs status (Some (of_files_alone ending)) before after old new = Ends status (Some ending) old new × (after ≡ before)
EndsAs status (Some (of_journal ending)) before after old new = EndsOnDisk status ending before after old new

-- the same with a configuration in hand, where no file is read
pub data EndsInHand (status : ℕ) (comes_to : List ℕ → Recordings → Ending) (before after : Input) (old new : Moment) : Type 0 where
  none_failed : after ≡ before → is_status status ≡ true → ((journal : List ℕ) → before.left ≡ Some journal → Ends status (Some (in_hand_of (comes_to journal))) old new)
      → EndsInHand status comes_to before after old new
  one_failed : RoseByOne before.faults after.faults → after.left ≡ before.left → IsTold DiskFault status old.written new.written old.write_faults new.write_faults
      → EndsInHand status comes_to before after old new

-- How the parts of such a run make up its end.
pub record DiskEndingLaws : Type 0 where
  -- the disk was not looked at
  pub untouched : (comes_to : List ℕ → List ℕ → Recordings → Ending) (status : ℕ) (disk : Input) (old new : Moment)
      → ((journal : List ℕ) → Ends status (Some (comes_to journal)) old new) → EndsOnDisk status comes_to disk disk old new
  -- a run with a configuration in hand is one behind the reading of it
  pub configured : (comes_to : List ℕ → Contents → Recordings → Ending) (contents : Contents) (bytes : List ℕ) (old now first second disk_old disk_new : Input) (before after : Option (List ℕ)) (old_faults new_faults status : ℕ)
      → configuration bytes ≡ Ok contents → HasRead CONFIGURATION_BYTES old now bytes → now.faults ≡ old.faults
      → EndsInHand status (λ journal. comes_to journal contents) disk_old disk_new (moment in_hand first second before old_faults) (moment in_hand first second after new_faults)
      → EndsOnDisk status (λ journal. of_files (comes_to journal)) disk_old disk_new (moment old first second before old_faults) (moment now first second after new_faults)
  -- with a configuration in hand: what a journal comes to was written,
  pub made : (all : List ℕ → Played) (first second disk_old disk_new : Input) (before after : Option (List ℕ)) (old_faults new_faults : ℕ)
      → disk_new ≡ disk_old → ((journal : List ℕ) → disk_old.left ≡ Some journal → PlayedTo (all journal) before after) → new_faults ≡ old_faults
      → EndsInHand 0 (λ journal. of_none (all journal)) disk_old disk_new (moment in_hand first second before old_faults) (moment in_hand first second after new_faults)
  -- or it was not,
  pub unmade : (all : List ℕ → Played) (fault : Fault) (status : ℕ) (first second disk_old disk_new : Input) (before between after : Option (List ℕ)) (old_faults faults new_faults : ℕ)
      → disk_new ≡ disk_old → is_status (status_of fault) ≡ true → ((journal : List ℕ) → disk_old.left ≡ Some journal → StopsPlaying fault (all journal) before between old_faults faults)
      → (is_write_fault fault ≡ false → faults ≡ old_faults) → Finishes fault status between after faults new_faults
      → EndsInHand status (λ journal. of_none (all journal)) disk_old disk_new (moment in_hand first second before old_faults) (moment in_hand first second after new_faults)
  -- or the disk failed
  pub failed : (comes_to : List ℕ → Recordings → Ending) (status : ℕ) (first second disk_old disk_new : Input) (before after : Option (List ℕ)) (old_faults new_faults : ℕ)
      → RoseByOne disk_old.faults disk_new.faults → disk_new.left ≡ disk_old.left → Finishes DiskFault status before after old_faults new_faults
      → EndsInHand status comes_to disk_old disk_new (moment in_hand first second before old_faults) (moment in_hand first second after new_faults)
