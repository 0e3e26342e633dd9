use Rattle.std.proofs.Common.{◌≡◌}
use Rattle.mt_shared.specs.Shared.{IsPassOf}
use Rattle.speed_shared.proofs.rounds.make_all.Given as goal

-- the pass is outside
abbrev pub invariant-loop-ready : goal.invariant-loop-ready
invariant-loop-ready g l = (l.shared ≡ l.fn.shared) × IsPassOf l.shared l.pass

abbrev pub decreases-loop-ready : goal.decreases-loop-ready
decreases-loop-ready g l = goal.left-loop-ready g l
