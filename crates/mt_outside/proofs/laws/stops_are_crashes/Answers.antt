use Rattle.mt_outside.specs.MemoryDisk.{settled}
use Rattle.mt_outside.proofs.DiskSteps.{at_first, each_fate}
use Rattle.mt_outside.proofs.laws.stops_are_crashes.Goals as goal

pub returns : goal.returns
returns c = λ log fate. each_fate (settled log.first) log.events (at_first log.first) fate
