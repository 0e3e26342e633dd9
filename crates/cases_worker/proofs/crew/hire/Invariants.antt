use Rattle.std.proofs.Common.{◌≡◌, ◌+◌, All, length}
use Rattle.cases_worker.specs.Crew.{MayServe}
use Rattle.mt_shared.specs.Shared.{IsPassOf}
use Rattle.cases_worker.proofs.crew.hire.Given as goal

-- each thread so far has a share of 1
abbrev pub invariant-loop-number : goal.invariant-loop-number
invariant-loop-number g l = (l.node ≡ l.fn.node) × IsPassOf l.node l.pass × All (MayServe l.node) l.hired.items
    × (l.pass.share + length l.hired.items ≡ l.fn.pass.share) × (length l.hired.items ≡ l.number)
