use Rattle.std.proofs.Common.{sym, ◌∙◌}
use Rattle.mt_runs.specs.mt_ledger.Reporting.{due_now}
use Rattle.mt_interactions.specs.Configured.{ConfiguredInteractions}
use Rattle.mt_interactions.proofs.Due.{not_plainly, over_none, over_session, plainly}
use Rattle.mt_interactions.proofs.interactions.Interactions.plan_report.Goals as goal

pub returns-in-Some-clause-over : goal.returns-in-Some-clause-over
returns-in-Some-clause-over g c =
    let kept : ConfiguredInteractions = c.args.self.now in
    over_session kept.state.node kept.ledger.history c.args.fabric c.args.id (due_now kept.state.node kept.ledger c.args.ms c.args.fabric c.args.id) c.in-Some.session c.in_ok-report.report c.in_ok-payloads-in-Some.payloads
    c.in_ok-report.ensures.reply (sym c.in-Some.is ∙ c.in_ok-report.ensures.session) c.in_ok-payloads-in-Some.ensures.exact

pub returns-in-Some-clause-sent : goal.returns-in-Some-clause-sent
returns-in-Some-clause-sent g c =
    let kept : ConfiguredInteractions = c.args.self.now in
    c.new-none.ensures ∙ not_plainly kept.state.node kept.ledger.history c.args.ms c.args.fabric c.args.id (due_now kept.state.node kept.ledger c.args.ms c.args.fabric c.args.id) c.in-Some.session (sym c.in-Some.is ∙ c.in_ok-report.ensures.session)

pub returns-clause-over : goal.returns-clause-over
returns-clause-over g c =
    let kept : ConfiguredInteractions = c.args.self.now in
    over_none kept.state.node kept.ledger.history c.args.fabric c.args.id (due_now kept.state.node kept.ledger c.args.ms c.args.fabric c.args.id) (sym c.in-None.is ∙ c.in_ok-report.ensures.session)

pub returns-clause-sent : goal.returns-clause-sent
returns-clause-sent g c =
    let kept : ConfiguredInteractions = c.args.self.now in
    plainly kept.state.node kept.ledger.history c.args.ms c.args.fabric c.args.id (due_now kept.state.node kept.ledger c.args.ms c.args.fabric c.args.id) c.in_ok-report.report c.in_ok-sent-in-None.sent
    c.in_ok-report.ensures.reply (sym c.in-None.is ∙ c.in_ok-report.ensures.session) c.in_ok-sent-in-None.ensures
