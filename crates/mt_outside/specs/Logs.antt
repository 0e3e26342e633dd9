-- What a disk that can tell has done, where it stops, and what a stop leaves of it.
use Rattle.std.specs.Prelude.{◌≡◌, ◌≤◌, ◌-◌, ℕ, zero, suc, true, List, [], ◌∷◌, ◌++◌, length, Option, Some, None, option_map, Result, OnErr, OnOk}
use Rattle.mt_outside.specs.MemoryDisk.{DiskEvent, DiskState, Held, Leaves, held_after, left_by, settled}
use Rattle.mt_outside.specs.MemoryDisk.DiskEvent.{wrote, synced}
use Rattle.mt_outside.specs.declared.fate.Fate.{Fate}
use Rattle.mt_outside.specs.Stops.{has_stopped}
use Rattle.mt_outside.specs.declared.stop.Stop.{Stop}

-- what a disk held at first, and what was written and synced since
pub record DiskLog : Type 0 where
  pub first : List ℕ
  pub events : List DiskEvent

-- the log of the disk in memory
abbrev pub log_of : DiskState → Option DiskLog
log_of disk = Some (record { first = disk.first; events = disk.events })

-- what a stop leaves by each fate
abbrev pub held_of : DiskLog → Held
held_of log = held_after (settled log.first) log.events

-- these writes and syncs behind all that was done
abbrev pub log_after : Option DiskLog → List DiskEvent → Option DiskLog
log_after log events = option_map (λ (l : DiskLog). record { first = l.first; events = l.events ++ events }) log

-- so many writes and syncs further
abbrev pub fewer : ℕ → Option Stop → Option Stop
fewer count None = None
fewer count (Some stop) = Some (record stop { calls = stop.calls - count })

-- What comes through of these writes and syncs, where the disk stops at the one of this number, from 1: those before it, and a write at which it stops.
abbrev pub done_until : ℕ → List DiskEvent → List DiskEvent
done_until zero events = []
done_until (suc calls) [] = []
done_until (suc zero) (wrote at bytes ∷ events) = wrote at bytes ∷ []
done_until (suc zero) (synced ∷ events) = []
done_until (suc (suc calls)) (event ∷ events) = event ∷ done_until (suc calls) events

-- The disk has stopped at one of these writes and syncs, or before the first of them.
abbrev pub StoppedIn : List DiskEvent → Option DiskLog → Option DiskLog → Option Stop → Option Stop → Type 0
StoppedIn events before after None now = ⊥
StoppedIn events before after (Some stop) now = (stop.calls ≤ length events) × (after ≡ log_after before (done_until stop.calls events)) × (now ≡ Some (record stop { calls = 0 }))

-- These writes and syncs were to be done, in order. Ok has done them all, and the disk has not stopped at one of them; where it has, its log got those until then.
pub record Logs {T E : Type 0} (events : List DiskEvent) (before after : Option DiskLog) (allowed now : Option Stop) (result : Result T E) : Type 0 where
  pub done : OnOk result ((after ≡ log_after before events) × (now ≡ fewer (length events) allowed))
  pub goes_on : OnOk result (has_stopped now ≡ true → events ≡ [])
  pub stopped : OnErr result (has_stopped now ≡ true → StoppedIn events before after allowed now)

-- nothing is written or synced
pub record LogsNothing (before after : Option DiskLog) (allowed now : Option Stop) : Type 0 where
  pub logged : after ≡ before
  pub allows : now ≡ allowed

-- What a stop leaves by its log, a crash may leave.
abbrev pub StopsAreCrashes : Type 0
StopsAreCrashes = (log : DiskLog) (fate : Fate) → Leaves (held_of log) (left_by fate (held_of log))
