use Rattle.std.proofs.Common.{arith}
use Rattle.mt_machine.proofs.Kept.{action_keeps_own, keeps_own}
use Rattle.mt_machine.proofs.Veiled.{time_keeps}
use Rattle.mt_machine.proofs.keeps_the_own.Goals as goal

pub returns-clause-event : goal.returns-clause-event
returns-clause-event c =
    keeps_own c.requests_keep_rules.ensures
    c.what_stays_stands_in_order.ensures.rows c.what_stays_stands_in_order.ensures.entries
    c.set_rows_stand_in_order.ensures.ascending c.set_rows_stand_in_order.ensures.others
    (λ es new whose. c.set_entries_stand_in_order.ensures.ascending es new 0 whose (omega arith)) c.set_entries_stand_in_order.ensures.others
    c.the_index_is_the_least.ensures c.steps_leave_states_valid.ensures.each

pub returns-clause-action : goal.returns-clause-action
returns-clause-action c =
    action_keeps_own c.requests_keep_rules.ensures
    c.what_stays_stands_in_order.ensures.rows c.what_stays_stands_in_order.ensures.entries
    c.set_rows_stand_in_order.ensures.ascending c.set_rows_stand_in_order.ensures.others
    (λ es new whose. c.set_entries_stand_in_order.ensures.ascending es new 0 whose (omega arith)) c.set_entries_stand_in_order.ensures.others
    c.the_index_is_the_least.ensures c.steps_leave_states_valid.ensures.each

pub returns-clause-time : goal.returns-clause-time
returns-clause-time c = time_keeps
