use Rattle.std.proofs.Common.{◌≡◌, ◌≤◌, ◌-◌, length, take}
use Rattle.mt_outside.specs.Stream.{Took}
use Rattle.mt_outside.proofs.whole.write_all.Given as goal

abbrev pub invariant-pieces : goal.invariant-pieces
invariant-pieces g l = record {
  took : Took (g.W.Sink.written l.initial.sink) (g.W.Sink.written l.sink) (take l.at l.bytes);
  calm : g.W.Sink.faults l.sink ≡ g.W.Sink.faults l.initial.sink;
  within : l.at ≤ length l.bytes;
}

abbrev pub decreases-pieces : goal.decreases-pieces
decreases-pieces g l = length l.bytes - l.at
