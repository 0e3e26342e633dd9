use Rattle.std.proofs.Common.{◌≡◌, ◌+◌, All, length}
use Rattle.cases_worker.specs.Crew.{HasServed}
use Rattle.mt_shared.specs.Shared.{IsPassOf}
use Rattle.cases_worker.proofs.crew.gather.Given as goal

-- the threads that are left have a share of 1 each
abbrev pub invariant-loop-one : goal.invariant-loop-one
invariant-loop-one g l = (l.node ≡ l.fn.node) × IsPassOf l.node l.pass × All (HasServed l.node) l.hired.items
    × (l.pass.share + length l.hired.items ≡ l.fn.pass.share + length l.fn.hired.items)

abbrev pub decreases-loop-one : goal.decreases-loop-one
decreases-loop-one g l = length l.hired.items
