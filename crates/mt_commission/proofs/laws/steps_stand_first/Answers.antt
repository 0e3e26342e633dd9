use Rattle.mt_commission.proofs.First.{steps_first}
use Rattle.mt_commission.proofs.laws.steps_stand_first.Goals as goal

pub returns : goal.returns
returns c = steps_first
