use Rattle.std.proofs.Common.{◌≡◌, ◌≤◌, ◌-◌, vec_len}
use Rattle.mt_outside.specs.Stream.{Gave}
use Rattle.mt_outside.proofs.whole.read_all.Given as goal

abbrev pub invariant-pieces : goal.invariant-pieces
invariant-pieces g l = record {
  gave : Gave (g.A.Source.left l.initial.source) (g.A.Source.left l.source) l.all.items;
  calm : g.A.Source.faults l.source ≡ g.A.Source.faults l.initial.source;
  within : vec_len l.all ≤ l.limit;
}

abbrev pub decreases-pieces : goal.decreases-pieces
decreases-pieces g l = l.limit - vec_len l.all
