use Rattle.mt_regained.proofs.NewNodes.{new_nodes_begin, reopened_may}
use Rattle.mt_regained.proofs.laws.reopened_nodes_may_start.Goals as goal

pub returns-clause-reopened : goal.returns-clause-reopened
returns-clause-reopened c = reopened_may c.maps_go_on_again.ensures

pub returns-clause-new : goal.returns-clause-new
returns-clause-new c = new_nodes_begin c.durable_maps_are_kept.ensures c.states_are_valid.ensures.opens c.boots_begin_valid.ensures.first c.maps_go_on_again.ensures
