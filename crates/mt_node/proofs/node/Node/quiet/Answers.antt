use Rattle.std.proofs.Common.{None, refl, ap, subst}
use Rattle.mt_model.specs.declared.node.action.Action.TheVariants.{Nothing}
use Rattle.mt_model.specs.declared.node.action.Effect.{Effect}
use Rattle.mt_machine.specs.State.{IsValid}
use Rattle.mt_node.specs.Configured.{ConfiguredNode}
use Rattle.mt_node.proofs.Plans.{plan_of}
use Rattle.mt_node.proofs.Rules.{bare, bare_keeps}
use Rattle.mt_node.proofs.node.Node.quiet.Goals as goal

pub returns : goal.returns
returns c = λ given.
    let s = c.args.self.now.state in
    let now = c.args.now in
    let valid : IsValid s = subst (λ (kept : ConfiguredNode). IsValid kept.state) c.self.view_is c.self.invariant in
    plan_of given s Nothing now None c.nothing.result c.unchanged.result refl
    (ap (λ (a : Effect). a.reply) c.nothing.ensures) (ap (λ (a : Effect). a.steps) c.nothing.ensures)
    (c.states_are_valid.ensures.stays (bare given) s Nothing now (bare_keeps given) valid)
    (λ fabric. c.one_leaves.ensures.action (bare given) s Nothing now fabric (bare_keeps given) valid)
    (c.unchanged.ensures s)
