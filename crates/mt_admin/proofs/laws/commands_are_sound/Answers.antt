use Rattle.mt_admin.proofs.Steps.{commands_sound}
use Rattle.mt_admin.proofs.laws.commands_are_sound.Goals as goal

pub returns : goal.returns
returns c = commands_sound
