use Rattle.std.specs.Prelude.{◌≡◌}
use Rattle.cases_worker.proofs.alone.put_all.Given as goal

abbrev pub invariant-loop-event : goal.invariant-loop-event
invariant-loop-event g l = l.sender.queue ≡ l.fn.sender.queue
