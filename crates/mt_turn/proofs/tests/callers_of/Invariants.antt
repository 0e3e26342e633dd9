use Rattle.std.proofs.Common.{◌≡◌, ◌+◌, All, false, length}
use Rattle.mt_turn.proofs.tests.callers_of.Given as goal

abbrev pub invariant-loop-number : goal.invariant-loop-number
invariant-loop-number l = (l.turn ≡ l.fn.turn) × (l.count ≡ l.fn.count) × (l.pass.lock ≡ l.turn) × (l.pass.inside ≡ false) × All (λ c. (c.pass.lock ≡ l.turn) × (c.pass.inside ≡ false) × (c.pass.share ≡ 1)) l.callers.items
    × (l.pass.share + length l.callers.items ≡ l.fn.pass.share) × (length l.callers.items ≡ l.number)
