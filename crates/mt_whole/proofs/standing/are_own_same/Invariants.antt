use Rattle.std.proofs.Common.{◌≡◌, ◌↔◌, length}
use Rattle.mt_whole.specs.Seeing.{standings_in}
use Rattle.mt_whole.proofs.standing.are_own_same.Given as goal

-- the lists have the same of the fabric exactly where what is left of them has
abbrev pub invariant-talks : goal.invariant-talks
invariant-talks l = (standings_in l.fabric l.mine l.talks ≡ standings_in l.fabric l.theirs l.others) ↔ (standings_in l.fabric l.mine l.rest ≡ standings_in l.fabric l.theirs l.other_rest)

abbrev pub decreases-talks : goal.decreases-talks
decreases-talks l = length l.rest
