use Rattle.mt_ledger.proofs.Told.{due_same, report_same}
use Rattle.mt_ledger.proofs.reports_are_the_same_on_the_veil.Goals as goal

pub returns-clause-due : goal.returns-clause-due
returns-clause-due c = λ fabric id now s l valid is.
    due_same c.sees_the_veil.ensures c.veil_keeps_both_parts.ensures.own c.veils_keep_events.ensures.own c.veils_keep_events.ensures.recent fabric id now s l valid is.history

pub returns-clause-told : goal.returns-clause-told
returns-clause-told c = λ fabric id s l due valid is.
    report_same c.sees_the_veil.ensures c.veil_keeps_both_parts.ensures.own c.veils_keep_events.ensures.own c.veils_keep_events.ensures.recent s l.history valid is.history fabric id due
