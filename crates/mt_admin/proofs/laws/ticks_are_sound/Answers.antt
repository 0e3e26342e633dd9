use Rattle.mt_admin.proofs.Steps.{ticks_sound}
use Rattle.mt_admin.proofs.laws.ticks_are_sound.Goals as goal

pub returns : goal.returns
returns c = ticks_sound
