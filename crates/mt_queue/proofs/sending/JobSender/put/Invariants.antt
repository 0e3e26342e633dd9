use Rattle.std.proofs.Common.{◌≡◌}
use Rattle.mt_queue.proofs.sending.JobSender.put.Given as goal

abbrev pub invariant-loop : goal.invariant-loop
invariant-loop g l = (l.left ≡ l.fn.job) × (l.self ≡ l.fn.self)
