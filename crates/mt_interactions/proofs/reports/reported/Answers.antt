use Rattle.std.proofs.Common.{ℕ, ap, refl, ◌∙◌}
use Rattle.mt_model.specs.declared.node.state.NodeState.{NodeState}
use Rattle.mt_runs.specs.mt_ledger.Behind.{reports}
use Rattle.mt_runs.specs.mt_ledger.Reporting.{Due}
use Rattle.mt_interactions.specs.Configured.{ConfiguredInteractions, given_to}
use Rattle.mt_interactions.specs.Reporting.{due_by}
use Rattle.mt_interactions.specs.declared.behind.SubsBehind.TheVariants.{Told}
use Rattle.mt_interactions.proofs.Due.{none_is, reports_due}
use Rattle.mt_interactions.proofs.Planned.{passing_does}
use Rattle.mt_interactions.proofs.reports.reported.Goals as goal

pub returns-clause-outcome : goal.returns-clause-outcome
returns-clause-outcome g c =
    let verdicts = c.args.verdicts.now in
    let kept : ConfiguredInteractions = c.args.interactions.now in
    let given = given_to kept (g.V.Verdicts.roots verdicts) (g.V.Verdicts.csrs verdicts) (g.V.Verdicts.joins verdicts) in
    let due : Due = due_by c.args.due.now in
    let change : ℕ = c.state.result.now.changed in
    let made = reports_due kept.state.node kept.ledger c.args.ms c.args.fabric c.args.id due change c.in_ok-report.event c.is_none.result c.requires
    (ap (λ (s : NodeState). s.changed) c.state.ensures ∙ ap (λ (k : ConfiguredInteractions). k.state.node.changed) c.interactions.view_is)
    c.in_ok-report.ensures.last (none_is c.is_none.result due.kept.sub.actor.session c.is_none.ensures) in
    passing_does given kept.state kept.ledger c.args.ms (Told c.args.fabric c.args.id change c.in_ok-report.event c.is_none.result) (reports c.args.fabric c.args.id) c.in_ok-outcome.outcome refl made c.in_ok-outcome.ensures
