use Rattle.mt_machine.proofs.Good.{taken_values_fit}
use Rattle.mt_machine.proofs.Settled.{nowhere-same, settled-same}
use Rattle.mt_machine.proofs.Times.{ends_nothing, sets_time}
use Rattle.mt_machine.proofs.actions_set_values.Goals as goal

pub returns-clause-time : goal.returns-clause-time
returns-clause-time c = sets_time c.what_is_told_the_same_is.ensures.rows

pub returns-clause-settled : goal.returns-clause-settled
returns-clause-settled c = settled-same c.what_is_told_the_same_is.ensures.rows

pub returns-clause-nothing_ends : goal.returns-clause-nothing_ends
returns-clause-nothing_ends c = ends_nothing

pub returns-clause-nowhere : goal.returns-clause-nowhere
returns-clause-nowhere c = nowhere-same

pub returns-clause-taken : goal.returns-clause-taken
returns-clause-taken c = taken_values_fit c.stored_places_are_those_of_the_model.ensures
