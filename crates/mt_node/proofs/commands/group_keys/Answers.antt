use Rattle.std.proofs.Common.{◌≡◌, ◌∙◌, ap, filter, subst, List}
use Rattle.std.specs.Result.{IfOk}
use Rattle.mt_groupkeys.specs.Commands.{invoked}
use Rattle.mt_model.specs.rows.Setting.{is_at}
use Rattle.mt_model.specs.declared.node.action.Effect.{Effect}
use Rattle.mt_model.specs.declared.rows.place.Row.{Row}
use Rattle.mt_machine.specs.State.{IsValid}
use Rattle.mt_node.specs.Configured.{ConfiguredNode}
use Rattle.mt_node.proofs.Observed.{keys_observed}
use Rattle.mt_node.proofs.commands.group_keys.Goals as goal

pub returns : goal.returns
returns c =
    let s = c.args.node.now.state in
    let actor = c.args.asking.now in
    let command = c.args.command.now in
    let fields = c.args.fields.now in
    let valid : IsValid s = subst (λ (kept : ConfiguredNode). IsValid kept.state) c.node.view_is c.node.invariant in
    let same = ap (λ (rows : List Row). invoked (λ place. filter (is_at place actor.fabric) rows) actor command fields) c.view.ensures.rows ∙ keys_observed c.rows_stand_in_order.ensures s valid actor command fields in
    subst (λ (wanted : Effect). IfOk c.invoke.result (λ effect. effect ≡ wanted)) same c.invoke.ensures
