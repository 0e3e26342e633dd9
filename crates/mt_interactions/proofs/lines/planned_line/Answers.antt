use Rattle.std.proofs.Common.{◌≡◌, None, ap, sym, ◌∙◌}
use Rattle.mt_node.specs.mt_machine.Step.{asker}
use Rattle.mt_interactions.specs.Configured.{ConfiguredInteractions, given_to}
use Rattle.mt_interactions.proofs.Planned.{quiet_line, quiet_sent}
use Rattle.mt_interactions.proofs.lines.planned_line.Goals as goal

pub returns-in_ok-outcome-in-None-clause-sent : goal.returns-in_ok-outcome-in-None-clause-sent
returns-in_ok-outcome-in-None-clause-sent g c =
    let verdicts = c.args.verdicts.now in
    let kept : ConfiguredInteractions = c.args.interactions.now in
    let given = given_to kept (g.V.Verdicts.roots verdicts) (g.V.Verdicts.csrs verdicts) (g.V.Verdicts.joins verdicts) in
    let actor = c.args.actor.now in
    let nobody : asker kept.state.node actor ≡ None = ap (λ (k : ConfiguredInteractions). asker k.state.node actor) (sym c.interactions.view_is) ∙ sym c.asker.ensures ∙ c.in-None.is in
    quiet_sent given kept.state kept.ledger c.args.ms actor c.args.asked.now c.new.result nobody c.new.ensures

pub returns-in_ok-outcome-in-None-clause-outcome : goal.returns-in_ok-outcome-in-None-clause-outcome
returns-in_ok-outcome-in-None-clause-outcome g c =
    let verdicts = c.args.verdicts.now in
    let kept : ConfiguredInteractions = c.args.interactions.now in
    let given = given_to kept (g.V.Verdicts.roots verdicts) (g.V.Verdicts.csrs verdicts) (g.V.Verdicts.joins verdicts) in
    let actor = c.args.actor.now in
    let nobody : asker kept.state.node actor ≡ None = ap (λ (k : ConfiguredInteractions). asker k.state.node actor) (sym c.interactions.view_is) ∙ sym c.asker.ensures ∙ c.in-None.is in
    quiet_line given kept.state kept.ledger c.args.ms actor c.args.asked.now c.in_ok-outcome-in-None.outcome nobody c.in_ok-outcome-in-None.ensures
