use Rattle.std.proofs.Common.{refl}
use Rattle.mt_crew.proofs.Crews.{has_worked}
use Rattle.mt_crew.proofs.member.Member.serve.Goals as goal

pub returns : goal.returns
returns g c = record {
  worked = has_worked g.O.Outlet.given g.O.Outlet.faults c.args.node.now c.args.self.now _ c.in-Some.pass c.in-Some.jobs c.in-Some.outlet c.worker.result c.requires.ready (cc) refl refl refl
      c.worker.ensures.outside c.worker.ensures.queue c.worker.ensures.ended c.worker.ensures.worked;
}
