-- Why serving ends, and what is told then.
use Rattle.std.specs.Prelude.{◌≡◌, ◌≢◌, ℕ, ◌==◌, List, Option, Some, None, codes, if◌then◌else◌}
use Rattle.mt_endings.specs.Parts as endings
use Rattle.mt_endings.specs.Parts.{TellsThere}
use Rattle.mt_endings.specs.declared.fault.Fault.TheVariants as faults
use Rattle.mt_outside.specs.Stream.{RoseByOne, Took, TookLess}
use Rattle.mt_starting.specs.declared.starting.StartFault.{StartFault}
use Rattle.mt_starting.specs.declared.starting.StartFault.TheVariants as starts
use Rattle.mt_starting.specs.mt_shared.Entry.{Entry}
use Rattle.mt_serving.specs.Record.{TookFront, record_of}
use Rattle.mt_serving.specs.declared.ending.ServeFault.{ServeFault}
use Rattle.mt_serving.specs.declared.ending.ServeFault.TheVariants.{Memory, Disk, NotAJournal, Link, Full, Worn}

abbrev pub fault_of_start : StartFault → ServeFault
fault_of_start starts.Disk = Disk
fault_of_start (starts.NotAJournal place) = NotAJournal place
fault_of_start starts.Worn = Worn
fault_of_start starts.Memory = Memory

-- by the status with which the threads of a node stopped
abbrev pub fault_of : ℕ → Option ServeFault
fault_of status =
    if status == 0 then None
    else if status == 8 then Some Disk
    else if status == 12 then Some Link
    else if status == 13 then Some Full
    else Some Memory

-- The line was written, with its status, or the sink failed at it.
pub data IsTold (wanted : ℕ) (line : List ℕ) (status : ℕ) (before after : Option (List ℕ)) (old new : ℕ) : Type 0 where
  whole_line : status ≡ wanted → new ≡ old → Took before after line → IsTold wanted line status before after old new
  part_of_line : status ≡ 6 → RoseByOne old new → TookLess before after line → IsTold wanted line status before after old new

-- WHAT IS TOLD of each.
abbrev pub Finishes : ServeFault → ℕ → Option (List ℕ) → Option (List ℕ) → ℕ → ℕ → Type 0
Finishes Memory status before after old new = (status ≡ 7) × TellsThere before after old new
Finishes Disk status before after old new = endings.Finishes faults.DiskFault status before after old new
Finishes (NotAJournal place) status before after old new = endings.Finishes (faults.NotAJournal place) status before after old new
Finishes Link status before after old new = IsTold 12 (codes "fault 12 link\n") status before after old new
Finishes Full status before after old new = IsTold 13 (codes "fault 13 full\n") status before after old new
Finishes Worn status before after old new = IsTold 17 (codes "fault 17 worn\n") status before after old new

-- THE END OF A BOOK, whose threads stopped with this status. It was written whole, and behind it the last line of that fault; or the sink
-- failed; or memory was wanting for it, which is told behind what was written; or both, where the threads stopped for want of memory.
pub data TellsEnd (book : List Entry) (stopped status : ℕ) (before after : Option (List ℕ)) (old new : ℕ) : Type 0 where
  whole : stopped ≡ 0 → status ≡ 0 → Took before after (record_of book) → new ≡ old → TellsEnd book stopped status before after old new
  behind : (fault : ServeFault) (middle : Option (List ℕ)) → fault_of stopped ≡ Some fault → Took before middle (record_of book) → Finishes fault status middle after old new
      → TellsEnd book stopped status before after old new
  cut : stopped ≢ 7 → status ≡ 6 → TookLess before after (record_of book) → RoseByOne old new → TellsEnd book stopped status before after old new
  wanting : (middle : Option (List ℕ)) → TookFront before middle (record_of book) → Finishes Memory status middle after old new → TellsEnd book stopped status before after old new
  unwritten : (middle : Option (List ℕ)) (between : ℕ) → stopped ≡ 7 → TookLess before middle (record_of book) → RoseByOne old between → Finishes Memory status middle after between new
      → TellsEnd book stopped status before after old new

-- there was no memory
abbrev pub TellsNoMemory : ℕ → Option (List ℕ) → Option (List ℕ) → ℕ → ℕ → Type 0
TellsNoMemory status before after old new = Finishes Memory status before after old new
