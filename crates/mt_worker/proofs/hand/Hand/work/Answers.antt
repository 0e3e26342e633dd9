use Rattle.std.proofs.Common.{◌≡◌, Err, map, rules, subst, sym}
use Rattle.mt_worker.specs.Due.{id_of}
use Rattle.mt_worker.specs.Works.{WentThrough}
use Rattle.mt_worker.specs.declared.fault.WorkFault.TheVariants.{Memory}
use Rattle.mt_worker.proofs.Sweeps.{through_nowhere}
use Rattle.mt_worker.proofs.hand.Hand.work.Goals as goal

pub returns-in_err-seats-clause-worked : goal.returns-in_err-seats-clause-worked
returns-in_err-seats-clause-worked g c accounts begun =
    let same : c.from_residual.result ≡ Err Memory = search rules in
    subst (λ r. WentThrough g.O.Outlet.given g.O.Outlet.faults (map id_of c.args.rows.now) c.args.jobs.now.taken c.args.self.now c.args.self.now r accounts) (sym same)
    (through_nowhere g.O.Outlet.given g.O.Outlet.faults _ (map id_of c.args.rows.now) c.args.jobs.now.taken c.args.self.now accounts c.requires.own.2)
