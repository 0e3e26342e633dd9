use Rattle.std.proofs.Common.{length}
use Rattle.mt_crew.proofs.gathering.+gather.Given as goal

abbrev pub decreases-gather : goal.decreases-gather
decreases-gather g l = length l.members.now.items
