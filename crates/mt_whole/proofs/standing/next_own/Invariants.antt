use Rattle.std.proofs.Common.{◌≡◌, ◌≤◌, length}
use Rattle.mt_whole.specs.Seeing.{standings_in}
use Rattle.mt_whole.proofs.standing.next_own.Given as goal

-- what is left has all that stands for the fabric
abbrev pub invariant-talks : goal.invariant-talks
invariant-talks l = (standings_in l.fabric l.sessions l.talks ≡ standings_in l.fabric l.sessions l.rest) × (length l.rest ≤ length l.talks)

abbrev pub decreases-talks : goal.decreases-talks
decreases-talks l = length l.rest
