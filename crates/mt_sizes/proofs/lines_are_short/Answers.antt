use Rattle.mt_sizes.proofs.Sizes.{line-short, moved-event, text-long}
use Rattle.mt_sizes.proofs.lines_are_short.Goals as goal

pub returns : goal.returns
returns c = record { short = line-short; moved = moved-event; whole = text-long }
