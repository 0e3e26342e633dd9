use Rattle.std.proofs.Common.{Result, subst, sym}
use Rattle.mt_im.specs.declared.fault.ImFault.{ImFault}
use Rattle.mt_model.specs.declared.messages.message.Request.{Request}
use Rattle.mt_node.specs.mt_machine.Lines.{action_of}
use Rattle.mt_runs.specs.mt_ledger.Behind.{acts}
use Rattle.mt_runs.specs.Datagrams.{actor_on}
use Rattle.mt_interactions.specs.Configured.{ConfiguredInteractions, given_to}
use Rattle.mt_interactions.specs.Plan.{IsDone}
use Rattle.mt_interactions.proofs.interactions.Interactions.plan_over.Goals as goal

pub returns-in_ok-payloads-in-Ok-clause-outcome : goal.returns-in_ok-payloads-in-Ok-clause-outcome
returns-in_ok-payloads-in-Ok-clause-outcome g c =
    let verdicts = c.args.verdicts.now in
    let kept : ConfiguredInteractions = c.args.self.now in
    let given = given_to kept (g.V.Verdicts.roots verdicts) (g.V.Verdicts.csrs verdicts) (g.V.Verdicts.joins verdicts) in
    subst (λ (asked : Result Request ImFault). IsDone given kept.state kept.ledger (acts (action_of (actor_on c.args.session) c.args.timed asked)) c.args.ms c.in_ok-full-in-Ok.outcome) (sym c.in-Ok.is) c.in_ok-full-in-Ok.ensures.outcome
