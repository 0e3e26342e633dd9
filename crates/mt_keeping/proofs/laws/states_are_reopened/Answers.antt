use Rattle.mt_keeping.proofs.Reopened.{reopens}
use Rattle.mt_keeping.proofs.laws.states_are_reopened.Goals as goal

pub returns : goal.returns
returns c = reopens c.durable_maps_are_kept.ensures c.states_are_regained.ensures.valid c.expiries_spare_others.ensures.valid c.reopened_nodes_may_start.ensures.reopened
