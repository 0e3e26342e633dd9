use Rattle.std.proofs.Common.{All}
use Rattle.mt_why.specs.Causes.{Holds}
use Rattle.mt_why.proofs.explaining.note_writes.Given as goal

abbrev pub invariant-loop-item : goal.invariant-loop-item
invariant-loop-item l = All (Holds l.scene) l.causes.items
