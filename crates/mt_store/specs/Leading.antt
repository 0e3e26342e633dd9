-- To which map the list of a journal leads, and the file.
use Rattle.std.specs.Prelude.{◌≡◌, ◌⊎◌, ℕ, Bool, true, false, ◌&&◌, List, [], ◌∷◌, Option, Some, None, Result, Ok, Err, IfSome, ⊤, if◌then◌else◌}
use Rattle.mt_durable.specs.Reading.{is_change, said}
use Rattle.mt_durable.specs.Setting.{with_all}
use Rattle.mt_durable.specs.declared.durable.Entry.{Entry}
use Rattle.mt_durable.specs.declared.reading.ChangeFault.{ChangeFault}
use Rattle.mt_durable.specs.declared.reading.ChangeFault.TheVariants.{NotAChange, Memory}
use Rattle.mt_journal.specs.Layout.{MayFollow, journal_at}
use Rattle.mt_journal.specs.Standing.{StandsFor}
use Rattle.mt_journal.specs.Stopping.{survives}
use Rattle.mt_journal.specs.declared.position.Position.{Position}
use Rattle.mt_outside.specs.Logs.{DiskLog, held_of, log_of}
use Rattle.mt_outside.specs.MemoryDisk.{DiskState, contents_of, left_by, restarted}
use Rattle.mt_outside.specs.Stops.{has_stopped}
use Rattle.mt_outside.specs.declared.stop.Stop.{Stop}

-- the map after these changes, None where one of them is no change
abbrev pub map_after : List Entry → List (List ℕ) → Option (List Entry)
map_after map [] = Some map
map_after map (change ∷ changes) = if is_change change then map_after (with_all (said change) map) changes else None

-- the map to which a list leads, from the empty map on; an image is a change that leads there from the empty map
abbrev pub map_of : List (List ℕ) → Option (List Entry)
map_of list = map_after [] list

-- whether bytes may follow a list that leads to this map, as a change: they are one, and the map to which it leads is admitted
abbrev pub follows : (List Entry → Bool) → Option (List Entry) → List ℕ → Bool
follows admits None bytes = false
follows admits (Some map) bytes = admits (with_all (said bytes) map) && is_change bytes

-- The file is a journal whose list leads to this map.
pub record Holds (image : List ℕ → Bool) (change : MayFollow) (map : List Entry) (file : List ℕ) : Type 0 where
  pub list : List (List ℕ)
  pub has : journal_at image change file ≡ Ok list
  pub leads : map_of list ≡ Some map

abbrev pub HoldsEither : (List ℕ → Bool) → MayFollow → List Entry → List Entry → List ℕ → Type 0
HoldsEither image change one other file = Holds image change one file ⊎ Holds image change other file

-- A journal in use stands for a list that leads to this map: the disk tells its contents, all of them safe.
pub record Keeps {D : Type 0} (contents : D → Option (List ℕ)) (images : D → List ℕ → Type 0) (image : List ℕ → Bool) (change : MayFollow) (disk : D) (place : Position) (map : List Entry) : Type 0 where
  pub list : List (List ℕ)
  pub stands : StandsFor contents images image change disk place list
  pub leads : map_of list ≡ Some map

-- the map that a stop in a commit of so many calls leaves: the one from before it, or that with the change
abbrev pub map_left : ℕ → Stop → List Entry → List Entry → List Entry
map_left calls stop one other = if survives calls stop then other else one

-- A disk that was to stop has stopped in a commit of so many calls, or before it. Its fate is what it was to be, and what it leaves leads to the map from before or to that with the change, as it stopped.
abbrev pub StopHolds : (List ℕ → Bool) → MayFollow → ℕ → List Entry → List Entry → Option Stop → Option Stop → Option DiskLog → Type 0
StopHolds image change calls one other allowed now log =
    IfSome allowed (λ (stop : Stop). has_stopped now ≡ true → (now ≡ Some (record stop { calls = 0 })) × IfSome log (λ (l : DiskLog). Holds image change (map_left calls stop one other) (left_by stop.fate (held_of l))))

-- What a disk in memory holds once it was restarted is what it was left with.
abbrev pub RestartsHold : Type 0
RestartsHold = (image : List ℕ → Bool) (change : MayFollow) (calls : ℕ) (one other : List Entry) (stop : Stop) (disk : DiskState)
    → StopHolds image change calls one other (Some stop) disk.stop (log_of disk) → has_stopped disk.stop ≡ true → Holds image change (map_left calls stop one other) (contents_of (restarted disk))

-- what holds where something is no change
abbrev pub IfNotAChange : {T : Type 0} → Result T ChangeFault → Type 0 → Type 0
IfNotAChange (Ok x) P = ⊤
IfNotAChange (Err NotAChange) P = P
IfNotAChange (Err Memory) P = ⊤
