use Rattle.mt_interactions.specs.Configured.{ConfiguredInteractions, given_to}
use Rattle.mt_interactions.specs.Deeds.{activity_at}
use Rattle.mt_interactions.proofs.Planned.{closes}
use Rattle.mt_interactions.proofs.interactions.Interactions.plan_deed.Goals as goal

pub returns-clause-closed : goal.returns-clause-closed
returns-clause-closed g c =
    let verdicts = c.args.verdicts.now in
    let kept : ConfiguredInteractions = c.args.self.now in
    let given = given_to kept (g.V.Verdicts.roots verdicts) (g.V.Verdicts.csrs verdicts) (g.V.Verdicts.joins verdicts) in
    closes given kept.state kept.ledger (activity_at kept.state.node c.args.deed.now c.args.ms) c.args.ms c.in_ok-reply.outcome c.in_ok-reply.ensures.outcome
