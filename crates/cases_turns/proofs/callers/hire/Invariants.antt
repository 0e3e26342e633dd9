use Rattle.std.proofs.Common.{◌≡◌, ◌+◌, All, length}
use Rattle.cases_turns.specs.Callers.{MayCall}
use Rattle.mt_shared.specs.Shared.{IsPassOf}
use Rattle.cases_turns.proofs.callers.hire.Given as goal

-- each thread so far has a share of 1
abbrev pub invariant-loop-number : goal.invariant-loop-number
invariant-loop-number g l = (l.node ≡ l.fn.node) × IsPassOf l.node l.pass × All (MayCall l.node) l.callers.items
    × (l.pass.share + length l.callers.items ≡ l.fn.pass.share) × (length l.callers.items ≡ l.number)
