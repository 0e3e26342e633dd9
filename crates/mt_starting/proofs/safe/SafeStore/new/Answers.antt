use Rattle.mt_starting.proofs.Keeps.{keeps_new}
use Rattle.mt_starting.proofs.safe.SafeStore.new.Goals as goal

pub invariant_of-result : goal.invariant_of-result
invariant_of-result g c = keeps_new {D = g.row.D.Denot} g.D.Disk.contents g.D.Disk.images c.args.store c.requires.in_use c.requires.runs c.requires.safe
