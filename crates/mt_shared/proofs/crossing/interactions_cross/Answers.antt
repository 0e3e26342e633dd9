use Rattle.mt_shared.proofs.Carrying.{interactions_send}
use Rattle.mt_shared.proofs.crossing.interactions_cross.Goals as goal

pub returns : goal.returns
returns c = interactions_send c.nodes_cross.ensures c.rings_cross.ensures
