use Rattle.mt_machine.proofs.AlikeSteps.{removed_alike, veiled_step}
use Rattle.mt_machine.proofs.steps_see_the_veil.Goals as goal

pub returns-clause-each : goal.returns-clause-each
returns-clause-each c = veiled_step

pub returns-clause-removal : goal.returns-clause-removal
returns-clause-removal c = removed_alike
