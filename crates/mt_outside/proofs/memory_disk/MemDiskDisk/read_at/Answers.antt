use Rattle.mt_outside.specs.Replaying.{events_of}
use Rattle.mt_outside.proofs.DiskSteps.{elapses_same}
use Rattle.mt_outside.proofs.memory_disk.MemDiskDisk.read_at.Goals as goal

pub returns-clause-time : goal.returns-clause-time
returns-clause-time c = rw (← c.self.view_is) (elapses_same c.self.inside.first.items (events_of c.self.inside.events.items))
