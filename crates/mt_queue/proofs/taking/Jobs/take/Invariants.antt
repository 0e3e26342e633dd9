use Rattle.std.proofs.Common.{◌≡◌}
use Rattle.mt_queue.proofs.taking.Jobs.take.Given as goal

abbrev pub invariant-loop : goal.invariant-loop
invariant-loop g l = l.self ≡ l.fn.self
