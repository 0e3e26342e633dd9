use Rattle.mt_commission.proofs.Steps.{steps_sound}
use Rattle.mt_commission.proofs.laws.steps_are_sound.Goals as goal

pub returns : goal.returns
returns c = steps_sound
