use Rattle.mt_shared.proofs.Carrying.{node_send}
use Rattle.mt_shared.proofs.crossing.nodes_cross.Goals as goal

pub returns : goal.returns
returns c = node_send c.states_cross.ensures c.maps_cross.ensures
