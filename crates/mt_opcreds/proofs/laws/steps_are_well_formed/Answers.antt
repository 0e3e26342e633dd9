use Rattle.mt_opcreds.proofs.Steps.{steps_fit}
use Rattle.mt_opcreds.proofs.laws.steps_are_well_formed.Goals as goal

pub returns : goal.returns
returns c = steps_fit
