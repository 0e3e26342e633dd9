use Rattle.mt_groupkeys.proofs.Steps.{nobody_steps, steps_sound}
use Rattle.mt_groupkeys.proofs.laws.steps_are_sound.Goals as goal

pub returns-clause-sound : goal.returns-clause-sound
returns-clause-sound c = steps_sound

pub returns-clause-nobody : goal.returns-clause-nobody
returns-clause-nobody c = nobody_steps
