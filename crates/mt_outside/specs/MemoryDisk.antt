-- What a contract sees of the disk in memory.
use Rattle.std.specs.Prelude.{◌≡◌, ◌≤◌, ◌⊎◌, ◌-◌, ◌/◌, ℕ, List, [], ◌∷◌, ◌++◌, length, take, replicate, Option, Some, None, Contains, IsTrue}
use Rattle.mt_outside.specs.Disk.{overwritten, CutShort}
use Rattle.mt_outside.specs.Stops.{fate_now, has_stopped}
use Rattle.mt_outside.specs.Stream.{one_more}
use Rattle.mt_outside.specs.declared.fate.Fate.{Fate}
use Rattle.mt_outside.specs.declared.fate.Fate.TheVariants.{Kept, Lost, Torn}
use Rattle.mt_outside.specs.declared.stop.Stop.{Stop}

-- bytes that were written at an offset, or a sync
pub data DiskEvent : Type 0 where
  wrote : ℕ → List ℕ → DiskEvent
  synced : DiskEvent

-- What a stop leaves by each fate, and which ranges were written since the latest sync, as offset and length, the newest first.
pub record Held : Type 0 where
  pub kept : List ℕ
  pub lost : List ℕ
  pub torn : List ℕ
  pub ranges : List (ℕ × ℕ)

-- all of it is safe
abbrev pub settled : List ℕ → Held
settled bytes = record { kept = bytes; lost = bytes; torn = bytes; ranges = [] }

-- the first half, rounded down, and a5 in the rest
abbrev pub half_torn : List ℕ → List ℕ
half_torn bytes = take (length bytes / 2) bytes ++ replicate (length bytes - length bytes / 2) 0xa5

abbrev pub held_after_one : Held → DiskEvent → Held
held_after_one held (wrote at bytes) = record {
  kept = overwritten at bytes held.kept;
  lost = held.lost;
  torn = overwritten at (half_torn bytes) held.torn;
  ranges = (at, length bytes) ∷ held.ranges;
}
held_after_one held synced = settled held.kept

-- the events in order, the first of them first
abbrev pub held_after : Held → List DiskEvent → Held
held_after held [] = held
held_after held (event ∷ events) = held_after (held_after_one held event) events

abbrev pub left_by : Fate → Held → List ℕ
left_by Kept held = held.kept
left_by Lost held = held.lost
left_by Torn held = held.torn

-- what was safe, after writes each of which is cut short
abbrev pub Reaches : List ℕ → List (ℕ × ℕ) → List ℕ → Type 0
Reaches safe [] image = image ≡ safe
Reaches safe (range ∷ earlier) image = (from : List ℕ) × Reaches safe earlier from × CutShort range.0 range.1 from image

-- a crash may leave this image
abbrev pub Leaves : Held → List ℕ → Type 0
Leaves held image = Reaches held.lost held.ranges image

-- A disk: what it held when it was made or restarted, what was written and synced since, the numbers of the calls that are to fail, from 1, how many calls and faults there were, and where it stops.
pub record DiskState : Type 0 where
  pub first : List ℕ
  pub events : List DiskEvent
  pub fail : List ℕ
  pub calls : ℕ
  pub faults : ℕ
  pub stop : Option Stop

-- a new disk with these contents, all of it safe
abbrev pub new_disk : List ℕ → List ℕ → DiskState
new_disk bytes fail = record { first = bytes; events = []; fail = fail; calls = 0; faults = 0; stop = None }

abbrev pub held : DiskState → Held
held disk = held_after (settled disk.first) disk.events

-- what a read gives
abbrev pub contents_of : DiskState → List ℕ
contents_of disk = (held disk).kept

-- a crash that came when there were so many events, or later, might have left this image
abbrev pub LeftSince : DiskState → ℕ → List ℕ → Type 0
LeftSince disk moment image = (count : ℕ) × (moment ≤ count) × (count ≤ length disk.events) × Leaves (held_after (settled disk.first) (take count disk.events)) image

-- the next call fails, since it is listed or the disk has stopped
abbrev pub IsRefused : DiskState → Type 0
IsRefused disk = Contains disk.fail (one_more disk.calls) ⊎ IsTrue (has_stopped disk.stop)

-- after a call that failed
abbrev pub failed : DiskState → DiskState
failed disk = record disk { calls = one_more disk.calls; faults = one_more disk.faults }

-- what the stop has left, safe, with no stop set; a disk that has not stopped only forgets where it was to
abbrev pub restarted_by : Option Fate → DiskState → DiskState
restarted_by None disk = record disk { stop = None }
restarted_by (Some fate) disk = record disk { first = left_by fate (held disk); events = []; stop = None }

abbrev pub restarted : DiskState → DiskState
restarted disk = restarted_by (fate_now disk.stop) disk

-- What was written since the latest sync, behind these.
abbrev pub unsynced_after : List DiskEvent → List DiskEvent → List DiskEvent
unsynced_after so_far [] = so_far
unsynced_after so_far (wrote at bytes ∷ events) = unsynced_after (so_far ++ wrote at bytes ∷ []) events
unsynced_after so_far (synced ∷ events) = unsynced_after [] events

abbrev pub unsynced : List DiskEvent → List DiskEvent
unsynced events = unsynced_after [] events

-- the same disk, as one that held at first what was safe at the latest sync
abbrev pub forgotten : DiskState → DiskState
forgotten disk = record disk { first = (held disk).lost; events = unsynced disk.events }
