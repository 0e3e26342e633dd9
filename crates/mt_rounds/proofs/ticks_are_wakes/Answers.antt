use Rattle.mt_rounds.proofs.Counts.{ticks_are}
use Rattle.mt_rounds.proofs.ticks_are_wakes.Goals as goal

pub returns : goal.returns
returns c = ticks_are
