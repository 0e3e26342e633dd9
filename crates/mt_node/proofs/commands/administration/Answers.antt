use Rattle.std.proofs.Common.{◌≡◌, ◌∙◌, filter, subst}
use Rattle.std.specs.Result.{IfOk}
use Rattle.mt_admin.specs.Commands.{invoked}
use Rattle.mt_model.specs.rows.Setting.{is_at}
use Rattle.mt_model.specs.tables.Known.{known_to}
use Rattle.mt_model.specs.declared.node.action.Effect.{Effect}
use Rattle.mt_machine.specs.Observation.{observation}
use Rattle.mt_machine.specs.State.{IsValid}
use Rattle.mt_node.specs.Configured.{ConfiguredNode}
use Rattle.mt_node.proofs.Observed.{admin_observed}
use Rattle.mt_node.proofs.commands.administration.Goals as goal

pub returns : goal.returns
returns c =
    let s = c.args.node.now.state in
    let actor = c.args.asking.now in
    let command = c.args.command.now in
    let fields = c.args.fields.now in
    let known = (observation actor.fabric s).known in
    let valid : IsValid s = subst (λ (kept : ConfiguredNode). IsValid kept.state) c.node.view_is c.node.invariant in
    let rows = c.view.ensures.rows in
    let parts = c.view.ensures.parts in
    let armed = c.view.ensures.armed in
    let same = (λ i. invoked (λ place. filter (is_at place 0) (rows i)) (known_to actor.fabric (parts i).fabrics (parts i).networks (armed i)) actor command fields c.args.now)
    ∙ admin_observed c.rows_stand_in_order.ensures s valid known actor command fields c.args.now in
    subst (λ (wanted : Effect). IfOk c.invoke.result (λ effect. effect ≡ wanted)) same c.invoke.ensures
