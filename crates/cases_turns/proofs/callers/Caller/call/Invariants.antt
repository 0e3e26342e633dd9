use Rattle.std.proofs.Common.{◌≡◌}
use Rattle.cases_turns.specs.Callers.{MayCall}
use Rattle.cases_turns.proofs.callers.Caller.call.Given as goal

-- the thread may call again
abbrev pub invariant-loop-round : goal.invariant-loop-round
invariant-loop-round g l = (l.node ≡ l.fn.node) × MayCall l.node l.self
