use Rattle.std.proofs.Common.{◌≡◌, None, rules}
use Rattle.mt_layer.specs.mt_runs.Datagrams.{session_named}
use Rattle.mt_worker.proofs.Sweeps.{take_nobody}
use Rattle.mt_worker.proofs.hand.Hand.take.Goals as goal

pub returns-in-None-clause-went : goal.returns-in-None-clause-went
returns-in-None-clause-went g c ids accounts are rising =
    let none : session_named c.args.bytes ≡ None = search rules in
    take_nobody g.O.Outlet.given g.O.Outlet.faults _ _ (session_named c.args.bytes) c.args.now c.args.from c.args.bytes ids c.args.self.now c.args.seats.now accounts c.requires.own.2 none are
