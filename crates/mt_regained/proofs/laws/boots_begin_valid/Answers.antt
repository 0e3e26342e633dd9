use Rattle.mt_regained.proofs.FirstBoot.{first_boots}
use Rattle.mt_regained.proofs.Regaining.{begins_valid}
use Rattle.mt_regained.proofs.laws.boots_begin_valid.Goals as goal

pub returns-clause-valid : goal.returns-clause-valid
returns-clause-valid c = begins_valid c.durable_maps_are_kept.ensures c.states_are_regained.ensures.valid c.expiries_spare_others.ensures.valid c.states_are_valid.ensures.begins

pub returns-clause-first : goal.returns-clause-first
returns-clause-first c = first_boots
