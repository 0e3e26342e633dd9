use Rattle.std.proofs.Common.{IfOk, subst, sym}
use Rattle.mt_model.specs.declared.node.action.NodeStep.{NodeStep}
use Rattle.mt_node.specs.Plan.{IsAmple}
use Rattle.mt_node.proofs.Ample.{ample_of}
use Rattle.mt_node.proofs.rooms.room.Goals as goal

pub returns-in-Some : goal.returns-in-Some
returns-in-Some c =
    let rows = c.args.rows.now in
    let steps = c.args.steps.now in
    subst (λ (step : NodeStep). IfOk c.with_capacity.result (IsAmple rows steps step)) (sym c.in-SetRow.is)
    (ample_of c.with_capacity.result rows steps c.in-SetRow.place c.in-SetRow.fabric c.in-SetRow.values c.in-Some.needed c.in-Some.ensures c.with_capacity.ensures.items c.with_capacity.ensures.exact)
