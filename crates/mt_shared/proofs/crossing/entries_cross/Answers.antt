use Rattle.mt_shared.proofs.Carrying.{written_send}
use Rattle.mt_shared.proofs.crossing.entries_cross.Goals as goal

pub returns : goal.returns
returns c = written_send c.deeds_cross.ensures
