use denote.Exit.{yes}
use Rattle.mt_shared.proofs.crossing.origins_cross.Goals as goal

pub returns : goal.returns
returns c = record { owned = c.crosses.ensures.owned; leaving = λ k. c.crosses.ensures.leaving yes }
