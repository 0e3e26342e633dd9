use Rattle.std.proofs.Common.{◌≡◌, true, List, None, refl, subst, sym}
use Rattle.mt_model.specs.declared.node.action.Action.TheVariants.{Expire}
use Rattle.mt_model.specs.declared.node.action.NodeStep.{NodeStep}
use Rattle.mt_machine.specs.State.{IsValid}
use Rattle.mt_machine.specs.Step.{at_time}
use Rattle.mt_machine.specs.Taking.{may_take_all}
use Rattle.mt_node.specs.Configured.{ConfiguredNode}
use Rattle.mt_node.specs.Plan.{IsMade, IsPlan}
use Rattle.mt_node.proofs.Plans.{if_ok, plan_of}
use Rattle.mt_node.proofs.Rules.{nothing_given, nothing_keeps}
use Rattle.mt_node.proofs.node.Node.plan_expiry.Goals as goal

pub outcome-requires : goal.outcome-requires
outcome-requires c =
    let s = c.args.self.now.state in
    let now = c.args.now in
    let valid : IsValid s = subst (λ (kept : ConfiguredNode). IsValid kept.state) c.self.view_is c.self.invariant in
    subst (λ (l : List NodeStep). may_take_all None l (at_time now s) ≡ true) (sym c.in_ok-steps.ensures) (c.states_are_valid.ensures.takes nothing_given s Expire now nothing_keeps valid)

pub returns : goal.returns
returns c = λ given.
    let s = c.args.self.now.state in
    let now = c.args.now in
    let valid : IsValid s = subst (λ (kept : ConfiguredNode). IsValid kept.state) c.self.view_is c.self.invariant in
    if_ok (IsMade s None _ now) (IsPlan given s Expire now) c.outcome.result
    (λ o made. plan_of given s Expire now None _ o refl refl c.in_ok-steps.ensures
    (c.states_are_valid.ensures.stays nothing_given s Expire now nothing_keeps valid)
    (λ fabric. c.one_leaves.ensures.action nothing_given s Expire now fabric nothing_keeps valid) made)
    c.outcome.ensures
