use Rattle.mt_machine.proofs.Seeing.{sees-veil}
use Rattle.mt_machine.proofs.sees_the_veil.Goals as goal

pub returns : goal.returns
returns c = sees-veil
