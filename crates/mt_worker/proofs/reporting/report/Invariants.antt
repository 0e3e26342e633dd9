use Rattle.std.proofs.Common.{◌≡◌}
use Rattle.mt_layer.specs.mt_shared.Shared.{IsPassOf}
use Rattle.mt_worker.specs.Works.{TickedThrough}
use Rattle.mt_turn.specs.History.{IsOutsideAgain}
use Rattle.mt_worker.proofs.Works.{ok}
use Rattle.mt_worker.proofs.reporting.report.Given as goal

abbrev pub invariant-loop : goal.invariant-loop
invariant-loop g l = record {
  own : IsPassOf l.desk.node.now l.pass;
  outside : IsOutsideAgain l.fn.pass l.pass;
  queue : l.jobs.queue ≡ l.fn.jobs.queue;
  ticked : TickedThrough l.jobs.taken l.fn.pass l.pass (ok (Unit {0}) tt);
}
