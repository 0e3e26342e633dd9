use Rattle.mt_shared.proofs.crossing.rings_cross.Goals as goal

pub returns : goal.returns
returns c = record { owned = c.crosses.ensures.owned; leaving = λ k d w. tt }
