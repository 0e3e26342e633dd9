-- How the end of a book is told.
use Rattle.std.proofs.Common.{◌≡◌, ◌∙◌, sym, ap, subst, ℕ, ◌<◌, arith, List, Option, Some, Result, Err}
use Rattle.mt_endings.specs.Faults.{status_of}
use Rattle.mt_endings.specs.Parts as endings
use Rattle.mt_endings.specs.Parts.{told_line, no_memory, no_sink}
use Rattle.mt_endings.specs.declared.fault.Fault.{Fault}
use Rattle.mt_endings.specs.declared.fault.Fault.TheVariants as faults
use Rattle.mt_model.specs.declared.texts.config.Config.{Config}
use Rattle.mt_outside.specs.declared.network.Arrival.{Arrival}
use Rattle.mt_outside.specs.declared.network.Parcel.{Parcel}
use Rattle.mt_outside.specs.Stream.{Took}
use Rattle.mt_starting.specs.mt_shared.Entry.{Entry}
use Rattle.mt_starting.specs.mt_interactions.Configured.{ConfiguredInteractions}
use Rattle.mt_serving.specs.Ending.{Finishes, IsTold, TellsEnd, behind, cut, fault_of, part_of_line, unwritten, wanting, whole, whole_line}
use Rattle.mt_serving.specs.Serves.{IsOrigin, IsServed, Ran, ran, unready}
use Rattle.mt_serving.specs.Record.{TookFront, Writes, record_of}
use Rattle.mt_serving.specs.declared.ending.ServeFault.{ServeFault}
use Rattle.mt_serving.specs.declared.ending.ServeFault.TheVariants as serves
use Rattle.mt_serving.specs.declared.recording.RecordFault.{RecordFault}

-- what a fault says of what was written
pub fault_writes : {T : Type 0} (result : Result T RecordFault) (found fault : RecordFault) (text : List ℕ) (before after : Option (List ℕ)) (old new : ℕ) → result ≡ Err found → found ≡ fault → Writes result text before after old new → Writes {T = T} (Err fault) text before after old new
fault_writes {T} result found fault text before after old new is same writes = subst (λ (r : Result T RecordFault). Writes r text before after old new) (is ∙ ap (λ (f : RecordFault). Err f) same) writes

module _ (book : List Entry) (stopped status : ℕ) (before middle after : Option (List ℕ)) (old between new : ℕ) where
  -- the line of a fault, behind the whole record
  pub told_behind : (fault : ServeFault) → fault_of stopped ≡ Some fault → Took before middle (record_of book) → between ≡ old → Finishes fault status middle after between new → TellsEnd book stopped status before after old new
  told_behind fault is took calm told = behind fault middle is took (subst (λ (n : ℕ). Finishes fault status middle after n new) calm told)

  -- that of want of memory, behind what was written of it
  pub told_wanting : TookFront before middle (record_of book) → between ≡ old → Finishes serves.Memory status middle after between new → TellsEnd book stopped status before after old new
  told_wanting took calm told = wanting middle took (subst (λ (n : ℕ). Finishes serves.Memory status middle after n new) calm told)

-- A FAULT IS NOT TOLD WITH THE STATUS 0.

own_status : (wanted : ℕ) (line : List ℕ) (status : ℕ) (before after : Option (List ℕ)) (old new : ℕ) → 0 < wanted → IsTold wanted line status before after old new → 0 < status
own_status wanted line status before after old new some (whole_line is same took) = subst (λ (n : ℕ). 0 < n) (sym is) some
own_status wanted line status before after old new some (part_of_line is rose less) = subst (λ (n : ℕ). 0 < n) (sym is) (omega arith)

line_status : (fault : Fault) (status : ℕ) (before after : Option (List ℕ)) (old new : ℕ) → 0 < status_of fault → endings.IsTold fault status before after old new → 0 < status
line_status fault status before after old new some (endings.whole_line is same took) = subst (λ (n : ℕ). 0 < n) (sym is) some
line_status fault status before after old new some (endings.part_of_line is rose less) = subst (λ (n : ℕ). 0 < n) (sym is) (omega arith)

ended_status : (fault : Fault) (status : ℕ) (before after : Option (List ℕ)) (old new : ℕ) → 0 < status_of fault → endings.Finishes fault status before after old new → 0 < status
ended_status fault status before after old new some (told_line other quiet line) = line_status fault status before after old new some line
ended_status fault status before after old new some (no_memory wants is line) = subst (λ (n : ℕ). 0 < n) (sym is) (omega arith)
ended_status fault status before after old new some (no_sink at is same stays) = subst (λ (n : ℕ). 0 < n) (sym is) (omega arith)

some_status : (fault : ServeFault) (status : ℕ) (before after : Option (List ℕ)) (old new : ℕ) → Finishes fault status before after old new → 0 < status
some_status serves.Memory status before after old new told = subst (λ (n : ℕ). 0 < n) (sym told.0) (omega arith)
some_status serves.Disk status before after old new told = ended_status faults.DiskFault status before after old new (omega arith) told
some_status (serves.NotAJournal place) status before after old new told = ended_status (faults.NotAJournal place) status before after old new (omega arith) told
some_status serves.Link status before after old new told = own_status 12 _ status before after old new (omega arith) told
some_status serves.Full status before after old new told = own_status 13 _ status before after old new (omega arith) told
some_status serves.Worn status before after old new told = own_status 17 _ status before after old new (omega arith) told

-- Where the status is 0, the threads met no fault, and the record was written whole.
told_whole : (book : List Entry) (stopped status : ℕ) (before after : Option (List ℕ)) (old new : ℕ) → TellsEnd book stopped status before after old new → status ≡ 0 → (stopped ≡ 0) × Took before after (record_of book)
told_whole book stopped status before after old new (whole none is took calm) zero = (none, took)
told_whole book stopped status before after old new (behind fault middle is took told) zero = absurd (omega (arith, some_status fault status middle after old new told, zero))
told_whole book stopped status before after old new (cut other is less rose) zero = absurd (omega (arith, is, zero))
told_whole book stopped status before after old new (wanting middle took told) zero = absurd (omega (arith, told.0, zero))
told_whole book stopped status before after old new (unwritten middle between seven less rose told) zero = absurd (omega (arith, told.0, zero))

-- So at status 0 a started node was served.
module _ {I O D : Type 0} (held : I → Option (List Arrival)) (clock missed : I → ℕ) (given : O → Option (List Parcel)) (failed : O → ℕ) (contents : D → Option (List ℕ)) (images : D → List ℕ → Type 0) (disk_faults : D → ℕ) (config : Config) (told : Option (List ℕ)) (limit : ℕ)
    (lent returned : List O) (intake left : I) (disk : D) (status : ℕ) (before after : Option (List ℕ)) (old new : ℕ) (origin : ConfiguredInteractions) (begun : IsOrigin config told origin) where
  pub was_served : Ran held clock missed given failed contents images disk_faults origin limit lent returned intake left disk status before after old new → status ≡ 0
      → IsServed held clock given config told limit lent returned intake left before after
  was_served (unready same calm tells) zero = absurd (omega (arith, tells.0, zero))
  was_served (ran book stopped there causes all end tells) zero =
      let both = told_whole book stopped status before after old new tells zero in
      record { origin = origin; begun = begun; book = book; serves = all both.0; written = both.1 }
