use Rattle.std.proofs.Common.{ap, is_none, subst, sym, ◌∙◌}
use Rattle.mt_model.specs.declared.node.action.Action.TheVariants.{Ask}
use Rattle.mt_runs.specs.mt_ledger.Behind.{Activity, acts}
use Rattle.mt_runs.specs.Datagrams.{actor_on}
use Rattle.mt_runs.specs.Whole.{fabric_live}
use Rattle.mt_interactions.specs.Configured.{ConfiguredInteractions, given_to}
use Rattle.mt_interactions.specs.Plan.{IsDone}
use Rattle.mt_interactions.proofs.Due.{none_is}
use Rattle.mt_interactions.proofs.Planned.{some_does}
use Rattle.mt_interactions.proofs.interactions.Interactions.asks.Goals as goal

pub returns-clause-outcome : goal.returns-clause-outcome
returns-clause-outcome g c =
    let verdicts = c.args.verdicts.now in
    let kept : ConfiguredInteractions = c.args.self.now in
    let given = given_to kept (g.V.Verdicts.roots verdicts) (g.V.Verdicts.csrs verdicts) (g.V.Verdicts.joins verdicts) in
    let asks : Activity = acts (Ask (actor_on c.args.session) c.args.request.now c.args.timed) in
    subst (λ (activity : Activity). IsDone given kept.state kept.ledger activity c.args.ms c.in_ok-full.outcome)
    (some_does (fabric_live kept.state.node c.args.session) asks (ap is_none (sym c.fabric_live.ensures) ∙ sym (none_is c.is_none.result c.fabric_live.result c.is_none.ensures) ∙ c.if-is_none.false))
    c.in_ok-full.ensures.outcome
