use Rattle.mt_ledger.proofs.Behind.{asked_on_veil, confirms_on_veil, ends_on_veil, reports_on_veil, ticks_on_veil}
use Rattle.mt_ledger.proofs.ledgers_are_left_on_the_veil.Goals as goal

pub returns-clause-action : goal.returns-clause-action
returns-clause-action c =
    asked_on_veil c.sees_the_veil.ensures c.veil_keeps_both_parts.ensures.own c.leaves_the_own_on_the_veil.ensures.action c.veils_keep_events.ensures.own c.veils_keep_events.ensures.recent
    c.events_are_left_on_the_veil.ensures.action c.valid_subscriptions_stay_valid.ensures.none.indexed

pub returns-clause-confirm : goal.returns-clause-confirm
returns-clause-confirm c = λ fabric id given s l now rules valid is.
    confirms_on_veil c.keeps_the_own.ensures.time c.others_events_are_kept.ensures.time given fabric s l now is c.sees_the_veil.ensures c.veil_keeps_both_parts.ensures.own
    c.veils_keep_events.ensures.own c.veils_keep_events.ensures.recent c.valid_subscriptions_stay_valid.ensures.none.indexed valid id

pub returns-clause-end : goal.returns-clause-end
returns-clause-end c = λ fabric ids given s l now rules valid is.
    ends_on_veil c.keeps_the_own.ensures.time c.others_events_are_kept.ensures.time given fabric s l now is c.sees_the_veil.ensures c.veil_keeps_both_parts.ensures.own
    c.veils_keep_events.ensures.own c.veils_keep_events.ensures.recent c.valid_subscriptions_stay_valid.ensures.none.indexed valid ids

pub returns-clause-report : goal.returns-clause-report
returns-clause-report c = λ fabric id given s l now rules valid is.
    reports_on_veil c.keeps_the_own.ensures.time c.others_events_are_kept.ensures.time given fabric s l now is c.sees_the_veil.ensures c.veil_keeps_both_parts.ensures.own
    c.veils_keep_events.ensures.own c.veils_keep_events.ensures.recent c.valid_subscriptions_stay_valid.ensures.none.indexed valid id

pub returns-clause-tick : goal.returns-clause-tick
returns-clause-tick c = λ fabric given s l now rules valid is.
    ticks_on_veil c.ticks_let_the_failsafe_expire.ensures.veil c.events_are_left_on_the_veil.ensures.tick c.valid_subscriptions_stay_valid.ensures.none.indexed given fabric s l now rules valid is
