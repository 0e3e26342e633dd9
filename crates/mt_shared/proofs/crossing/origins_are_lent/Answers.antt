use Rattle.mt_shared.proofs.crossing.origins_are_lent.Goals as goal

pub returns : goal.returns
returns c = record { shared = c.lends.ensures.shared }
