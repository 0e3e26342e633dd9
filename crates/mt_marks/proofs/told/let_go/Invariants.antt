use Rattle.std.proofs.Common.{◌≡◌, map}
use Rattle.mt_marks.specs.Remembered.{told_without_ended}
use Rattle.mt_marks.specs.Told.{talks_in}
use Rattle.mt_marks.proofs.Edited.{let_go_from}
use Rattle.mt_marks.proofs.told.let_go.Given as goal

-- the first ones have let go
abbrev pub invariant-loop-told : goal.invariant-loop-told
invariant-loop-told l = let_go_from l.closed l.told-index l.talks ≡ map (told_without_ended l.closed) (talks_in l.fn.talks)
