use Rattle.mt_regained.proofs.OtherKeys.{other_values}
use Rattle.mt_regained.proofs.Regaining.{regained, rolled_twice}
use Rattle.mt_regained.proofs.laws.rollbacks_are_the_last_word.Goals as goal

pub returns-clause-again : goal.returns-clause-again
returns-clause-again c = regained c.durable_maps_are_kept.ensures c.states_are_regained.ensures.again

pub returns-clause-twice : goal.returns-clause-twice
returns-clause-twice c = rolled_twice c.durable_maps_are_kept.ensures c.states_are_regained.ensures.valid c.expiries_spare_others.ensures.valid c.states_are_regained.ensures.again

pub returns-clause-keys : goal.returns-clause-keys
returns-clause-keys c = other_values c.expiries_roll_back.ensures.leaves
