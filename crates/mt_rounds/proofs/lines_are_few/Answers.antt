use Rattle.mt_rounds.proofs.Counts.{few}
use Rattle.mt_rounds.proofs.lines_are_few.Goals as goal

pub returns : goal.returns
returns c = few
