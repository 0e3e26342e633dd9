use Rattle.mt_machine.proofs.Veiled.{sends_on_veil}
use Rattle.mt_machine.proofs.sends_on_the_veil.Goals as goal

pub returns : goal.returns
returns c = sends_on_veil
