use Rattle.std.proofs.Common.{◌≡◌, ◌∙◌, Option, Some, List, true, ap, subst, sym}
use Rattle.mt_model.specs.declared.node.action.Action.TheVariants.{Ask}
use Rattle.mt_model.specs.declared.node.action.NodeStep.{NodeStep}
use Rattle.mt_model.specs.declared.tables.access.Actor.{Actor}
use Rattle.mt_machine.specs.State.{IsValid}
use Rattle.mt_machine.specs.Step.{asked_reply, asked_steps, at_time}
use Rattle.mt_machine.specs.Taking.{may_take_all}
use Rattle.mt_node.specs.Configured.{ConfiguredNode, given_to}
use Rattle.mt_node.specs.Plan.{IsMade, IsPlan}
use Rattle.mt_node.proofs.Plans.{if_ok, plan_of}
use Rattle.mt_node.proofs.Rules.{leaves_one, stays, taken}
use Rattle.mt_node.proofs.node.Node.plan_asked.Goals as goal

pub outcome-requires : goal.outcome-requires
outcome-requires g c =
    let s = c.args.self.now.state in
    let verdicts = c.args.verdicts.now in
    let given = given_to c.args.self.now (g.V.Verdicts.roots verdicts) (g.V.Verdicts.csrs verdicts) (g.V.Verdicts.joins verdicts) in
    let valid : IsValid s = subst (λ (kept : ConfiguredNode). IsValid kept.state) c.self.view_is c.self.invariant in
    let actor = c.args.actor.now in
    let request = c.args.request.now in
    let all = taken given s valid actor request c.args.timed c.args.now c.rules_hold_where_asked.ensures c.states_are_valid.ensures.takes in
    subst (λ (steps : List NodeStep). may_take_all (Some c.args.asking.now) steps (at_time c.args.now s) ≡ true) (sym c.in_ok-answered.ensures.steps)
    (subst (λ (o : Option Actor). may_take_all o (asked_steps given s request c.args.timed c.args.now o) (at_time c.args.now s) ≡ true) c.requires.asks all)

pub returns : goal.returns
returns g c =
    let s = c.args.self.now.state in
    let verdicts = c.args.verdicts.now in
    let given = given_to c.args.self.now (g.V.Verdicts.roots verdicts) (g.V.Verdicts.csrs verdicts) (g.V.Verdicts.joins verdicts) in
    let valid : IsValid s = subst (λ (kept : ConfiguredNode). IsValid kept.state) c.self.view_is c.self.invariant in
    let actor = c.args.actor.now in
    let asking = c.args.asking.now in
    let request = c.args.request.now in
    let timed = c.args.timed in
    let now = c.args.now in
    let answered = c.in_ok-answered.answered in
    if_ok (IsMade s (Some asking) answered now) (IsPlan given s (Ask actor request timed) now) c.outcome.result
    (λ o made. plan_of given s (Ask actor request timed) now (Some asking) answered o (sym c.requires.asks)
    (c.in_ok-answered.ensures.reply ∙ sym (ap (asked_reply given s request timed now) c.requires.asks))
    (c.in_ok-answered.ensures.steps ∙ sym (ap (asked_steps given s request timed now) c.requires.asks))
    (stays given s valid actor request timed now c.rules_hold_where_asked.ensures c.states_are_valid.ensures.stays)
    (leaves_one given s valid actor request timed now c.rules_hold_where_asked.ensures c.one_leaves.ensures.action) made)
    c.outcome.ensures
