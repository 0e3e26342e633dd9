use Rattle.std.proofs.Common.{length}
use Rattle.mt_worker.proofs.hand.Hand.+wake.Given as goal

abbrev pub decreases-wake : goal.decreases-wake
decreases-wake g l = length l.seats.now
