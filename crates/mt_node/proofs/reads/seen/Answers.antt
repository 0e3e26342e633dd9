use Rattle.std.proofs.Common.{◌≡◌, Some, subst}
use Rattle.std.specs.Result.{IfOk}
use Rattle.mt_model.specs.rows.Seen.{Seen}
use Rattle.mt_read.specs.Reading.{read_answer}
use Rattle.mt_machine.specs.State.{IsValid}
use Rattle.mt_node.specs.Configured.{ConfiguredNode}
use Rattle.mt_node.proofs.reads.seen.Goals as goal

-- what is read of the rows is what is read of them in order
pub returns-clause-exact : goal.returns-clause-exact
returns-clause-exact c =
    let valid : IsValid c.args.node.now.state = subst (λ (kept : ConfiguredNode). IsValid kept.state) c.node.view_is c.node.invariant in
    let same = c.rows_stand_in_order.ensures c.args.asking.now.fabric c.args.node.now.state valid in
    subst (λ (seen : Seen). IfOk c.read.result (λ items. read_answer seen c.args.asking.now c.args.paths.now c.args.filtered c.args.versions.now ≡ Some items)) same c.read.ensures.exact
