use Rattle.mt_worker.proofs.Sweeps.{end_idle}
use Rattle.mt_worker.proofs.hand.Hand.is_end_after.Goals as goal

pub returns-in-End-clause-went : goal.returns-in-End-clause-went
returns-in-End-clause-went g c ids accounts are rising = end_idle g.O.Outlet.given g.O.Outlet.faults _ _ c.args.job ids c.args.self.now c.args.seats.now accounts c.requires.own.2 c.in-End.is are
