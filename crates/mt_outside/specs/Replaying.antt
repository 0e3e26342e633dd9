-- How the disk in memory keeps what was done to it.
use Rattle.std.specs.Prelude.{◌≡◌, ℕ, List, [], ◌∷◌, map, ⊤}
use Rattle.mt_outside.specs.Disk.{overwritten}
use Rattle.mt_outside.specs.MemoryDisk.{DiskEvent, Held, half_torn, settled}
use Rattle.mt_outside.specs.MemoryDisk.DiskEvent.{wrote, synced}
use Rattle.mt_outside.specs.declared.fate.Fate.{Fate}
use Rattle.mt_outside.specs.declared.fate.Fate.TheVariants.{Kept, Lost, Torn}
use Rattle.mt_outside.specs.declared.replaying.Event.{Event}
use Rattle.mt_outside.specs.declared.replaying.Event.TheVariants.{Wrote, Synced}

abbrev pub event_of : Event → DiskEvent
event_of (Wrote at bytes) = wrote at bytes.items
event_of Synced = synced

abbrev pub events_of : List Event → List DiskEvent
events_of events = map event_of events

-- what a write leaves by a fate; a sync leaves all as it is
abbrev pub left_after_one : Fate → List ℕ → DiskEvent → List ℕ
left_after_one Kept bytes (wrote at from) = overwritten at from bytes
left_after_one Lost bytes (wrote at from) = bytes
left_after_one Torn bytes (wrote at from) = overwritten at (half_torn from) bytes
left_after_one fate bytes synced = bytes

abbrev pub left_after : Fate → List ℕ → List DiskEvent → List ℕ
left_after fate bytes [] = bytes
left_after fate bytes (event ∷ events) = left_after fate (left_after_one fate bytes event) events

-- no sync is among them
abbrev pub AreWrites : List DiskEvent → Type 0
AreWrites [] = ⊤
AreWrites (wrote at bytes ∷ events) = AreWrites events
AreWrites (synced ∷ events) = ⊥

-- nothing was written since the latest sync
abbrev pub IsAtRest : Held → Type 0
IsAtRest held = held ≡ settled held.kept
