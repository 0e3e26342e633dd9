use Rattle.mt_write.proofs.Own.{touches_its_own}
use Rattle.mt_write.proofs.laws.writes_touch_their_own.Goals as goal

pub returns : goal.returns
returns c = touches_its_own c.attributes_are_data.ensures
