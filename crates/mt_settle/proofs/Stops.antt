-- How a run ends that has no lines of a journal to write.
use Rattle.std.proofs.Common.{◌≡◌, ℕ, List, [], Option, refl, sym, subst, ap₂}
use Rattle.mt_model.specs.texts.Contents.{Contents}
use Rattle.mt_outside.specs.Laws.{StreamLaws}
use Rattle.mt_endings.specs.declared.fault.Fault.{Fault}
use Rattle.mt_endings.specs.declared.fault.Fault.TheVariants.{BadWords, BadConfig, BadRecord, ReadFault, WriteFault, Memory, DiskFault, NotAJournal, TooLong, Differ, NoSession, Exhausted}
use Rattle.mt_endings.specs.Endings.{Played, of_none}
use Rattle.mt_endings.specs.Moments.{Input, in_hand, input, moment}
use Rattle.mt_endings.specs.OnDisk.{DiskEndingLaws, EndsInHand}
use Rattle.mt_endings.specs.Parts.{Finishes, StopsPlaying}
use Rattle.mt_settle.specs.Settled.{StopsSettling, settled}

module _ (laws : DiskEndingLaws) (streams : StreamLaws) (contents : Contents) (told told_now : Option (List ℕ)) (kept : told_now ≡ told) (disk_faults disk_faults_now status : ℕ) (first second : Input) (before after : Option (List ℕ)) (old_faults new_faults : ℕ) where
  pub stopped : (fault : Fault) → StopsSettling fault contents told disk_faults disk_faults_now → Finishes fault status before after old_faults new_faults
      → EndsInHand status (λ journal. of_none (settled contents journal)) (input told disk_faults) (input told_now disk_faults_now) (moment in_hand first second before old_faults) (moment in_hand first second after new_faults)
  stopped DiskFault stops ends = laws.failed (λ journal. of_none (settled contents journal)) status first second (input told disk_faults) (input told_now disk_faults_now) before after old_faults new_faults stops kept ends
  stopped Memory stops ends =
      laws.unmade (settled contents) Memory status first second (input told disk_faults) (input told_now disk_faults_now) before before after old_faults old_faults new_faults (ap₂ input kept stops) refl
      (λ journal is. ([], (settled contents journal).lines, refl, streams.nothing before)) (λ quiet. refl) ends
  stopped (NotAJournal place) stops ends =
      laws.unmade (settled contents) (NotAJournal place) status first second (input told disk_faults) (input told_now disk_faults_now) before before after old_faults old_faults new_faults (ap₂ input kept stops.0) refl
      (λ journal is. subst (λ (all : Played). StopsPlaying (NotAJournal place) all before before old_faults old_faults) (sym (stops.1 journal is)) (refl, streams.nothing before)) (λ quiet. refl) ends
  stopped BadWords stops ends = absurd stops
  stopped (BadConfig field) stops ends = absurd stops
  stopped (BadRecord line kind) stops ends = absurd stops
  stopped ReadFault stops ends = absurd stops
  stopped WriteFault stops ends = absurd stops
  stopped TooLong stops ends = absurd stops
  stopped Differ stops ends = absurd stops
  stopped NoSession stops ends = absurd stops
  stopped (Exhausted line) stops ends = absurd stops
