use Rattle.std.proofs.Common.{◌≡◌, ◌+◌}
use Rattle.mt_shared.specs.Shared.{IsPassOf}
use Rattle.cases_shared.proofs.turns.take_turns.Given as goal

-- both passes are outside, and have the whole share together
abbrev pub invariant-loop-line : goal.invariant-loop-line
invariant-loop-line g l = (l.shared ≡ l.fn.shared) × IsPassOf l.shared l.pass × IsPassOf l.shared l.other × (l.pass.share + l.other.share ≡ 64)
