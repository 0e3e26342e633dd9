use Rattle.mt_regained.proofs.Reopenings.{reopens_valid, rolled_is_rollback, rolls_back}
use Rattle.mt_regained.proofs.laws.reopenings_roll_back.Goals as goal

pub returns-clause-valid : goal.returns-clause-valid
returns-clause-valid c = reopens_valid c.durable_maps_are_kept.ensures c.boots_begin_valid.ensures.valid

pub returns-clause-back : goal.returns-clause-back
returns-clause-back c = rolls_back c.durable_maps_are_kept.ensures c.states_are_regained.ensures.valid c.states_are_regained.ensures.again c.expiries_spare_others.ensures.valid

pub returns-clause-rolled : goal.returns-clause-rolled
returns-clause-rolled c = rolled_is_rollback c.durable_maps_are_kept.ensures c.states_are_regained.ensures.valid c.states_are_regained.ensures.again
