use Rattle.std.proofs.Common.{◌≡◌, false}
use Rattle.mt_turn.proofs.tests.Caller.make_calls.Given as goal

abbrev pub invariant-loop-call : goal.invariant-loop-call
invariant-loop-call g l = (l.turn ≡ l.fn.turn) × (l.self.pass.lock ≡ l.turn) × (l.self.pass.inside ≡ false) × (l.self.pass.share ≡ l.fn.self.pass.share)
