use Rattle.std.proofs.Common.{All}
use Rattle.mt_why.specs.Causes.{Holds}
use Rattle.mt_why.proofs.explaining.note_paths.Given as goal

abbrev pub invariant-loop-path : goal.invariant-loop-path
invariant-loop-path l = All (Holds l.scene) l.causes.items
