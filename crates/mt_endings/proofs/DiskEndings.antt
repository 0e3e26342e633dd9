-- From what a run made of a journal, or that the disk failed, and how that was told, to the end of the run.
use Rattle.std.proofs.Common.{◌≡◌, true, false, ℕ, List, Option, Some, [], Ok, refl, sym, subst}
use Rattle.mt_outside.specs.Stream.{RoseByOne}
use Rattle.mt_model.specs.declared.limits.TheConstants.{CONFIGURATION_BYTES}
use Rattle.mt_model.specs.texts.Contents.{Contents}
use Rattle.mt_config.specs.Configuration.{configuration}
use Rattle.mt_endings.specs.declared.fault.Fault.{Fault}
use Rattle.mt_endings.specs.declared.fault.Fault.TheVariants.{DiskFault}
use Rattle.mt_endings.specs.Endings.{Ending, Played, Recordings, of_files, of_none}
use Rattle.mt_endings.specs.Faults.{status_of}
use Rattle.mt_endings.specs.Laws.{EndingLaws}
use Rattle.mt_endings.specs.Moments.{HasRead, Input, Moment, in_hand, moment}
use Rattle.mt_endings.specs.OnDisk.{EndsInHand, EndsOnDisk, none_failed, one_failed}
use Rattle.mt_endings.specs.Parts.{Finishes, IsTold, PlayedTo, StopsPlaying, is_write_fault, no_memory, no_sink, part_of_line, told_line, whole_line}
use Rattle.mt_endings.specs.Run.{Ends}
use Rattle.mt_endings.specs.Statuses.{is_status}

-- A fault is told with its own status, or with that of an output or of memory that failed.

told_known : (fault : Fault) (status : ℕ) (before after : Option (List ℕ)) (old new : ℕ) → is_status (status_of fault) ≡ true → IsTold fault status before after old new → is_status status ≡ true
told_known fault status before after old new known (whole_line is same t) = subst (λ (n : ℕ). is_status n ≡ true) (sym is) known
told_known fault status before after old new known (part_of_line is rose t) = subst (λ (n : ℕ). is_status n ≡ true) (sym is) refl

finish_known : (fault : Fault) (status : ℕ) (before after : Option (List ℕ)) (old new : ℕ) → is_status (status_of fault) ≡ true → Finishes fault status before after old new → is_status status ≡ true
finish_known fault status before after old new known (told_line other quiet t) = told_known fault status before after old new known t
finish_known fault status before after old new known (no_memory wants is t) = subst (λ (n : ℕ). is_status n ≡ true) (sym is) refl
finish_known fault status before after old new known (no_sink at is same stays) = subst (λ (n : ℕ). is_status n ≡ true) (sym is) refl

-- A disk that failed is told without memory, and it is no output that failed.
disk_told : (status : ℕ) (before after : Option (List ℕ)) (old new : ℕ) → Finishes DiskFault status before after old new → IsTold DiskFault status before after old new
disk_told status before after old new (told_line other quiet t) = t
disk_told status before after old new (no_memory wants is t) = absurd (cc)
disk_told status before after old new (no_sink at is same stays) = absurd (cc)

pub untouched : (comes_to : List ℕ → List ℕ → Recordings → Ending) (status : ℕ) (disk : Input) (old new : Moment)
    → ((journal : List ℕ) → Ends status (Some (comes_to journal)) old new) → EndsOnDisk status comes_to disk disk old new
untouched comes_to status disk old new h = none_failed refl (h []).known (λ journal is. h journal)

-- By what is known of a run that looks at no disk.
module _ (laws : EndingLaws) where
  pub configured : (comes_to : List ℕ → Contents → Recordings → Ending) (contents : Contents) (bytes : List ℕ) (old now first second disk_old disk_new : Input) (before after : Option (List ℕ)) (old_faults new_faults status : ℕ)
      → configuration bytes ≡ Ok contents → HasRead CONFIGURATION_BYTES old now bytes → now.faults ≡ old.faults
      → EndsInHand status (λ journal. comes_to journal contents) disk_old disk_new (moment in_hand first second before old_faults) (moment in_hand first second after new_faults)
      → EndsOnDisk status (λ journal. of_files (comes_to journal)) disk_old disk_new (moment old first second before old_faults) (moment now first second after new_faults)
  configured comes_to contents bytes old now first second disk_old disk_new before after old_faults new_faults status is read calm (none_failed same known h) =
      none_failed same known (λ journal held. laws.configured (comes_to journal) contents bytes old now first first second second before after old_faults new_faults status is read calm (h journal held))
  configured comes_to contents bytes old now first second disk_old disk_new before after old_faults new_faults status is read calm (one_failed rose kept told) = one_failed (record {
    config = bytes;
    contents = contents;
    read = read;
    is = is;
    rose = rose;
    kept = kept;
    calm = record { config = calm; first = refl; second = refl };
    first = refl;
    second = refl;
  }) told

  pub made : (all : List ℕ → Played) (first second disk_old disk_new : Input) (before after : Option (List ℕ)) (old_faults new_faults : ℕ)
      → disk_new ≡ disk_old → ((journal : List ℕ) → disk_old.left ≡ Some journal → PlayedTo (all journal) before after) → new_faults ≡ old_faults
      → EndsInHand 0 (λ journal. of_none (all journal)) disk_old disk_new (moment in_hand first second before old_faults) (moment in_hand first second after new_faults)
  made all first second disk_old disk_new before after old_faults new_faults same h calm =
      none_failed same refl (λ journal held. laws.made (all journal) first second before after old_faults new_faults (h journal held) calm)

  pub unmade : (all : List ℕ → Played) (fault : Fault) (status : ℕ) (first second disk_old disk_new : Input) (before between after : Option (List ℕ)) (old_faults faults new_faults : ℕ)
      → disk_new ≡ disk_old → is_status (status_of fault) ≡ true → ((journal : List ℕ) → disk_old.left ≡ Some journal → StopsPlaying fault (all journal) before between old_faults faults)
      → (is_write_fault fault ≡ false → faults ≡ old_faults) → Finishes fault status between after faults new_faults
      → EndsInHand status (λ journal. of_none (all journal)) disk_old disk_new (moment in_hand first second before old_faults) (moment in_hand first second after new_faults)
  unmade all fault status first second disk_old disk_new before between after old_faults faults new_faults same known h calm end =
      none_failed same (finish_known fault status between after faults new_faults known end)
      (λ journal held. laws.unmade (all journal) fault status first second before between after old_faults faults new_faults (h journal held) calm end)

pub failed : (comes_to : List ℕ → Recordings → Ending) (status : ℕ) (first second disk_old disk_new : Input) (before after : Option (List ℕ)) (old_faults new_faults : ℕ)
    → RoseByOne disk_old.faults disk_new.faults → disk_new.left ≡ disk_old.left → Finishes DiskFault status before after old_faults new_faults
    → EndsInHand status comes_to disk_old disk_new (moment in_hand first second before old_faults) (moment in_hand first second after new_faults)
failed comes_to status first second disk_old disk_new before after old_faults new_faults rose kept end = one_failed rose kept (disk_told status before after old_faults new_faults end)
