use Rattle.mt_runs.proofs.Keeping.{keeps_own}
use Rattle.mt_runs.proofs.lines.whole_keeps_the_own.Goals as goal

pub returns : goal.returns
returns c = λ given fabric w e rules valid no_tick differ there.
    keeps_own c.sessions_keep_their_ids.ensures given fabric w valid c.keeps_the_own.ensures.action c.keeps_the_own.ensures.time
    c.others_ledgers_are_kept.ensures.action c.others_ledgers_are_kept.ensures.confirm c.others_ledgers_are_kept.ensures.end c.others_ledgers_are_kept.ensures.report c.others_ledgers_are_kept.ensures.time c.others_ledgers_are_kept.ensures.nobody rules
    c.keeps_the_own.ensures.event c.what_is_asked_is_the_same_on_the_veil.ensures.asker e no_tick differ there
