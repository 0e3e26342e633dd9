-- What a commit leaves on a disk that stops in it.
use Rattle.std.specs.Prelude.{◌≡◌, ◌<◌, ◌≤◌, ◌+◌, ◌&&◌, ℕ, Bool, true, false, List, [], ◌∷◌, Ok, Option, Some, IfSome, nat_lt, if◌then◌else◌}
use Rattle.mt_outside.specs.Logs.{DiskLog, held_of}
use Rattle.mt_outside.specs.MemoryDisk.{DiskEvent, left_by}
use Rattle.mt_outside.specs.MemoryDisk.DiskEvent.{wrote, synced}
use Rattle.mt_outside.specs.Stops.{has_stopped}
use Rattle.mt_outside.specs.declared.fate.Fate.{Fate}
use Rattle.mt_outside.specs.declared.fate.Fate.TheVariants.{Kept, Lost, Torn}
use Rattle.mt_outside.specs.declared.stop.Stop.{Stop}
use Rattle.mt_journal.specs.Layout.{MayFollow, journal_at}
use Rattle.mt_journal.specs.declared.position.Position.{Position}
use Rattle.mt_journal.specs.declared.position.Position.TheVariants.{Fresh, Begun, Log, InUse}

-- the writes and syncs by which a file of at most nine bytes gets its head
abbrev pub head_calls : Position → List DiskEvent
head_calls Fresh = wrote 0 (0x4d ∷ 0x54 ∷ 0x4a ∷ 0x52 ∷ 0x4e ∷ 0x4c ∷ 0x32 ∷ 0x0a ∷ 0 ∷ []) ∷ synced ∷ []
head_calls Begun = []
head_calls (Log gate) = []
head_calls (InUse base p0 p1 gate) = []

abbrev pub is_kept : Fate → Bool
is_kept Kept = true
is_kept Lost = false
is_kept Torn = false

-- The piece of a commit of so many calls is there after a stop: the disk stopped at one of the last two of them, and all of it was kept.
abbrev pub survives : ℕ → Stop → Bool
survives calls stop = is_kept stop.fate && nat_lt calls (stop.calls + 2)

-- the list that a stop in a commit leaves: the one from before it, or that with the piece
abbrev pub list_left : ℕ → Stop → List (List ℕ) → List (List ℕ) → List (List ℕ)
list_left calls stop list other = if survives calls stop then other else list

-- So many calls were allowed, and one more at least.
abbrev pub Outlasts : ℕ → Option Stop → Type 0
Outlasts calls allowed = IfSome allowed (λ (stop : Stop). calls < stop.calls)

-- What a stop leaves, by the disk's log, has this list.
abbrev pub LogLeaves : (List ℕ → Bool) → MayFollow → Fate → List (List ℕ) → Option DiskLog → Type 0
LogLeaves is_image may_follow fate list log = IfSome log (λ (l : DiskLog). journal_at is_image may_follow (left_by fate (held_of l)) ≡ Ok list)

-- A disk that was to stop has stopped in a commit of so many calls, or before it. Its fate is what it was to be, and what it leaves has the list from before or that with the piece, as it stopped.
abbrev pub StopLeaves : (List ℕ → Bool) → MayFollow → ℕ → List (List ℕ) → List (List ℕ) → Option Stop → Option Stop → Option DiskLog → Type 0
StopLeaves is_image may_follow calls list other allowed now log =
    IfSome allowed (λ (stop : Stop). has_stopped now ≡ true → (now ≡ Some (record stop { calls = 0 })) × LogLeaves is_image may_follow stop.fate (list_left calls stop list other) log)

-- The same of a disk that stopped before the piece was written: it has the list from before.
abbrev pub StopKeeps : (List ℕ → Bool) → MayFollow → ℕ → List (List ℕ) → Option Stop → Option Stop → Option DiskLog → Type 0
StopKeeps is_image may_follow calls list allowed now log =
    IfSome allowed (λ (stop : Stop). has_stopped now ≡ true → (stop.calls ≤ calls) × (now ≡ Some (record stop { calls = 0 })) × LogLeaves is_image may_follow stop.fate list log)
