use Rattle.std.proofs.Common.{◌≡◌, All, length, map}
use Rattle.mt_crew.specs.Ready.{IsFresh, IsUnput, queue_put, queue_taken}
use Rattle.mt_crew.proofs.seating.queues.Given as goal

abbrev pub invariant-loop-number : goal.invariant-loop-number
invariant-loop-number l = record {
  unput : All IsUnput l.senders.items;
  fresh : All IsFresh l.all.items;
  queues : map queue_taken l.all.items ≡ map queue_put l.senders.items;
  senders : length l.senders.items ≡ l.number;
  jobs : length l.all.items ≡ l.number;
}
