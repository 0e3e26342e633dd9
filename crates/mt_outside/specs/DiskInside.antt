-- How the disk in memory keeps what contracts see of it.
use Rattle.std.specs.Prelude.{◌≡◌, ◌≤◌, length, take, drop, vec_capacity}
use Rattle.mt_outside.specs.MemoryDisk.{DiskState, contents_of, held_after, settled}
use Rattle.mt_outside.specs.Replaying.{AreWrites, IsAtRest, events_of}
use Rattle.mt_outside.specs.declared.memory_disk.MemDisk.TheInside.{Inside}

abbrev pub state_of : Inside → DiskState
state_of inside = record {
  first = inside.first.items;
  events = events_of inside.events.items;
  fail = inside.failures.fail.items;
  calls = inside.failures.calls;
  faults = inside.failures.faults;
  stop = inside.stop;
}

pub record IsSound (inside : Inside) : Type 0 where
  -- what a read gives is kept ready
  pub contents : inside.bytes.items ≡ contents_of (state_of inside)
  -- so many events lead to the latest sync
  pub within : inside.synced ≤ length inside.events.items
  pub at_rest : IsAtRest (held_after (settled inside.first.items) (take inside.synced (events_of inside.events.items)))
  pub writes : AreWrites (drop inside.synced (events_of inside.events.items))
  -- a restart finds room
  pub room : length inside.bytes.items ≤ vec_capacity inside.first
