use Rattle.std.proofs.Common.{◌≡◌, ◌+◌, All, length}
use Rattle.cases_turns.specs.Callers.{MayCall}
use Rattle.mt_shared.specs.Shared.{IsPassOf}
use Rattle.cases_turns.proofs.callers.gather.Given as goal

-- the threads that are left have a share of 1 each
abbrev pub invariant-loop-one : goal.invariant-loop-one
invariant-loop-one g l = (l.node ≡ l.fn.node) × IsPassOf l.node l.pass × All (MayCall l.node) l.callers.items
    × (l.pass.share + length l.callers.items ≡ l.fn.pass.share + length l.fn.callers.items)

abbrev pub decreases-loop-one : goal.decreases-loop-one
decreases-loop-one g l = length l.callers.items
