use Rattle.std.proofs.Common.{length, ◌-◌}
use Rattle.mt_worker.proofs.hand.Hand.+report_from.Given as goal

abbrev pub decreases-report_from : goal.decreases-report_from
decreases-report_from g l = length l.seat.now.subscriptions.items - l.at
