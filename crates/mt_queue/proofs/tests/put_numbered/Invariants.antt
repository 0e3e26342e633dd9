use Rattle.std.proofs.Common.{◌≡◌}
use Rattle.mt_queue.proofs.tests.put_numbered.Given as goal

abbrev pub invariant-loop-number : goal.invariant-loop-number
invariant-loop-number g l = l.sender.queue ≡ l.fn.sender.queue
