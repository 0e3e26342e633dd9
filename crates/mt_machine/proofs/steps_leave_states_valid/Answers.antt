use Rattle.mt_machine.proofs.StepsValid.{all-taken-valid, taken-valid}
use Rattle.mt_machine.proofs.steps_leave_states_valid.Goals as goal

pub returns-clause-each : goal.returns-clause-each
returns-clause-each c =
    taken-valid
    c.what_stays_stands_in_order.ensures.rows c.what_stays_stands_in_order.ensures.entries c.set_rows_stand_in_order.ensures.ascending c.set_entries_stand_in_order.ensures.ascending
    c.the_index_is_the_least.ensures
    c.valid_tables_stay_valid.ensures.added c.valid_tables_stay_valid.ensures.updated c.valid_tables_stay_valid.ensures.removed c.valid_tables_stay_valid.ensures.labelled

pub returns-clause-all : goal.returns-clause-all
returns-clause-all c =
    all-taken-valid
    c.what_stays_stands_in_order.ensures.rows c.what_stays_stands_in_order.ensures.entries c.set_rows_stand_in_order.ensures.ascending c.set_entries_stand_in_order.ensures.ascending
    c.the_index_is_the_least.ensures
    c.valid_tables_stay_valid.ensures.added c.valid_tables_stay_valid.ensures.updated c.valid_tables_stay_valid.ensures.removed c.valid_tables_stay_valid.ensures.labelled
