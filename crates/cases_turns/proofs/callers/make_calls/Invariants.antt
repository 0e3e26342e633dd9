use Rattle.std.proofs.Common.{◌≡◌}
use Rattle.mt_shared.specs.Shared.{IsPassOf}
use Rattle.cases_turns.proofs.callers.make_calls.Given as goal

-- the pass is outside, and has its share
abbrev pub invariant-loop-line : goal.invariant-loop-line
invariant-loop-line g l = (l.node ≡ l.fn.node) × IsPassOf l.node l.pass × (l.pass.share ≡ l.fn.pass.share)
