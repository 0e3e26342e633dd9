use Rattle.std.proofs.Common.{length}
use Rattle.mt_worker.proofs.hand.Hand.+take_of.Given as goal

abbrev pub decreases-take_of : goal.decreases-take_of
decreases-take_of g l = length l.seats.now
