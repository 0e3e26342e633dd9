use Rattle.mt_shared.proofs.Carrying.{state_send}
use Rattle.mt_shared.proofs.crossing.states_cross.Goals as goal

pub returns : goal.returns
returns c = state_send c.rows_cross.ensures
