use Rattle.std.proofs.Common.{length}
use Rattle.mt_journal.proofs.recovering.+same_front.Given as goal

abbrev pub decreases-same_front : goal.decreases-same_front
decreases-same_front l = length l.mark.now
