use Rattle.std.proofs.Common.{◌≡◌, ◌+◌, All, false, length}
use Rattle.mt_turn.proofs.tests.gather.Given as goal

abbrev pub invariant-loop-caller : goal.invariant-loop-caller
invariant-loop-caller l = (l.turn ≡ l.fn.turn) × (l.pass.lock ≡ l.turn) × (l.pass.inside ≡ false) × All (λ c. (c.pass.lock ≡ l.turn) × (c.pass.inside ≡ false) × (c.pass.share ≡ 1)) l.callers.items
    × (l.pass.share + length l.callers.items ≡ l.fn.pass.share + length l.fn.callers.items)

abbrev pub decreases-loop-caller : goal.decreases-loop-caller
decreases-loop-caller l = goal.left-loop-caller l
