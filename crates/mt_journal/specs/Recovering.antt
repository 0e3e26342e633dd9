-- What is read of a journal's file, and by what faults.
use Rattle.std.specs.Prelude.{◌≡◌, ◌≤◌, ◌<◌, ◌+◌, ℕ, true, false, List, length, take, drop, get_or, Result, Ok, Err, Option, ⊤}
use Rattle.mt_outside.specs.Disk.{LeavesOnly, NoneNew}
use Rattle.mt_outside.specs.Stream.{RoseByOne}
use Rattle.mt_journal.specs.Layout.{MayFollow, Reads, Records, is_move, is_open, is_past, length_of}
use Rattle.mt_journal.specs.Standing.{HasUpTo}
use Rattle.mt_journal.specs.declared.reading.AtGate.{AtGate}
use Rattle.mt_journal.specs.declared.reading.AtGate.TheVariants.{Closed, Moved, Change}
use Rattle.mt_journal.specs.declared.reading.JournalFault.{JournalFault}
use Rattle.mt_journal.specs.declared.reading.JournalFault.TheVariants.{Disk, NotAJournal, Memory}
use Rattle.mt_journal.specs.declared.recovering.RecordsEnd.{RecordsEnd}
use Rattle.mt_journal.specs.declared.recovering.RecordsEnd.TheVariants as ends

-- the disk was read and nothing else
pub record OnlyRead {D : Type 0} (contents : D → Option (List ℕ)) (images : D → List ℕ → Type 0) (moment : D → ℕ) (images_since : D → ℕ → List ℕ → Type 0) (old new : D) : Type 0 where
  pub kept : contents new ≡ contents old
  pub crash : NoneNew (images old) (images new)
  pub moments : LeavesOnly moment images_since old new (images old)

-- The disk's count rises by one where that is the fault, and stays otherwise.
abbrev pub FaultHasCause : ℕ → ℕ → JournalFault → Type 0
FaultHasCause before now Disk = RoseByOne before now
FaultHasCause before now (NotAJournal place) = now ≡ before
FaultHasCause before now Memory = now ≡ before

abbrev pub HasReadCause : {T : Type 0} → ℕ → ℕ → Result T JournalFault → Type 0
HasReadCause before now (Ok x) = now ≡ before
HasReadCause before now (Err fault) = FaultHasCause before now fault

-- what holds of the place of a file that is no journal
abbrev pub HasPlace : JournalFault → (ℕ → Type 0) → Type 0
HasPlace Disk P = ⊤
HasPlace (NotAJournal place) P = P place
HasPlace Memory P = ⊤

abbrev pub IfNotAJournal : {T : Type 0} → Result T JournalFault → (ℕ → Type 0) → Type 0
IfNotAJournal (Ok x) P = ⊤
IfNotAJournal (Err fault) P = HasPlace fault P

-- These bytes stand behind their length, at this place, and end before the limit.
pub record LaysOut (limit : Option ℕ) (place : ℕ) (rest bytes : List ℕ) : Type 0 where
  pub count : length_of (take 4 rest) ≡ length bytes
  pub there : 4 + length bytes ≤ length rest
  pub short : length bytes ≤ 65536
  pub within : is_past limit (place + 5 + length bytes) ≡ false
  pub bytes_are : take (length bytes) (drop 4 rest) ≡ bytes

-- An open gate was read.
pub record OpenRead (gate : ℕ) (file : List ℕ) : Type 0 where
  pub there : gate < length file
  pub opens : is_open (get_or file gate 0) ≡ true

-- A record was read at this gate, which is open. Its change may follow this list.
pub record RecordRead (may_follow : MayFollow) (list : List (List ℕ)) (limit : Option ℕ) (gate : ℕ) (bytes file : List ℕ) : Type 0 where
  pub open_ : OpenRead gate file
  pub lies : LaysOut limit (gate + 1) (drop (gate + 1) file) bytes
  pub form : may_follow list bytes ≡ true

-- A gate was read, which is closed, or the mark of a move behind one that is open, or a record.
abbrev pub GateRead : MayFollow → List (List ℕ) → Option ℕ → ℕ → AtGate → List ℕ → Type 0
GateRead may_follow list limit gate Closed file = (gate < length file) × (is_open (get_or file gate 0) ≡ false)
GateRead may_follow list limit gate Moved file = OpenRead gate file × (is_move limit (drop (gate + 1) file) ≡ true)
GateRead may_follow list limit gate (Change bytes) file = RecordRead may_follow list limit gate bytes file

-- what holds of a change that was read
abbrev pub IsChange : AtGate → (List ℕ → Type 0) → Type 0
IsChange Closed P = ⊤
IsChange Moved P = ⊤
IsChange (Change bytes) P = P bytes

-- what holds of the gate that ends records, or of the one before the mark of a move
abbrev pub EndsAt : RecordsEnd → (ℕ → Type 0) → Type 0
EndsAt (ends.Closed gate) P = P gate
EndsAt (ends.Moved gate) P = P gate

-- Records were read up to a closed gate, or to the mark of a move.
abbrev pub RecordsRead : (List ℕ → Reads Records) → MayFollow → Option ℕ → ℕ → RecordsEnd → List (List ℕ) → List ℕ → Type 0
RecordsRead reads may_follow limit start (ends.Closed gate) list file = HasUpTo reads may_follow limit start gate list file × (gate < length file) × (is_open (get_or file gate 0) ≡ false)
RecordsRead reads may_follow limit start (ends.Moved gate) list file = HasUpTo reads may_follow limit start gate list file × OpenRead gate file × (is_move limit (drop (gate + 1) file) ≡ true)
