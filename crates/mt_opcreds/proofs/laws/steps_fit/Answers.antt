use Rattle.mt_opcreds.proofs.Taken.{steps_are_taken}
use Rattle.mt_opcreds.proofs.laws.steps_fit.Goals as goal

pub returns : goal.returns
returns c = steps_are_taken
