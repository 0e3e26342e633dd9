use Rattle.std.proofs.Common.{◌≡◌}
use mathlib.Core.List.{IsPrefix}
use Rattle.mt_worker.proofs.working.take_to_end.Given as goal

abbrev pub invariant-loop : goal.invariant-loop
invariant-loop g l = record {
  queue : l.jobs.queue ≡ l.fn.jobs.queue;
  longer : IsPrefix l.fn.jobs.taken l.jobs.taken;
}
