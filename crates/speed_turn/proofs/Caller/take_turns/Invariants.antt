use Rattle.std.proofs.Common.{◌≡◌, false}
use Rattle.speed_turn.proofs.Caller.take_turns.Given as goal

abbrev pub invariant-loop-amount : goal.invariant-loop-amount
invariant-loop-amount g l = (l.turn ≡ l.fn.turn) × (l.self.pass.lock ≡ l.turn) × (l.self.pass.inside ≡ false) × (l.self.pass.share ≡ l.fn.self.pass.share)
