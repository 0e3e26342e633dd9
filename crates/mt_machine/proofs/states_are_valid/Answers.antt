use Rattle.mt_machine.proofs.Opening.{begins_valid, opens_valid}
use Rattle.mt_machine.proofs.Asked.{action_taken, stays_valid}
use Rattle.mt_machine.proofs.StepsValid.{all-taken-valid}
use Rattle.mt_machine.proofs.Writes.{timed_valid}
use Rattle.mt_machine.specs.Step.{asker_of, steps_of}
use Rattle.mt_machine.proofs.states_are_valid.Goals as goal

pub returns-clause-opens : goal.returns-clause-opens
returns-clause-opens c = opens_valid c.numbered_fabrics_ascend.ensures c.changes_stay_in_order.ensures.unchanged

pub returns-clause-begins : goal.returns-clause-begins
returns-clause-begins c = begins_valid c.changes_stay_in_order.ensures.unchanged

pub returns-clause-takes : goal.returns-clause-takes
returns-clause-takes c given s action now keeps valid =
    action_taken c.requests_keep_rules.ensures
    given keeps s action now valid

pub returns-clause-times : goal.returns-clause-times
returns-clause-times c = timed_valid

pub returns-clause-stays : goal.returns-clause-stays
returns-clause-stays c given s action now keeps valid =
    stays_valid c.changes_stay_in_order.ensures.noted
    (all-taken-valid
    c.what_stays_stands_in_order.ensures.rows c.what_stays_stands_in_order.ensures.entries c.set_rows_stand_in_order.ensures.ascending c.set_entries_stand_in_order.ensures.ascending
    c.the_index_is_the_least.ensures
    c.valid_tables_stay_valid.ensures.added c.valid_tables_stay_valid.ensures.updated c.valid_tables_stay_valid.ensures.removed c.valid_tables_stay_valid.ensures.labelled)
    (asker_of s action) (steps_of given s action now) s now valid (returns-clause-takes c given s action now keeps valid)
