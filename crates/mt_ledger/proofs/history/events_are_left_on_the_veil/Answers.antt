use Rattle.mt_ledger.proofs.OnVeil.{leaves_events, ticks_leave}
use Rattle.mt_ledger.proofs.history.events_are_left_on_the_veil.Goals as goal

pub returns-clause-action : goal.returns-clause-action
returns-clause-action c = λ given s h actor asking asked deadline now rules valid is on_state on_veil.
    leaves_events
    c.veil_keeps_both_parts.ensures.own c.leaves_the_own_on_the_veil.ensures.action c.one_leaves.ensures.action c.one_leaves.ensures.veil c.what_is_asked_is_the_same_on_the_veil.ensures.steps c.what_is_asked_is_the_same_on_the_veil.ensures.known
    given s h actor asking asked deadline now rules valid is on_state on_veil

pub returns-clause-tick : goal.returns-clause-tick
returns-clause-tick c = λ given fabric s h now rules valid is. ticks_leave c.veil_keeps_both_parts.ensures.own c.ticks_let_the_failsafe_expire.ensures.veil c.one_leaves.ensures.tick given fabric s h now valid is
