use Rattle.std.proofs.Common.{◌≡◌, ◌++◌, drop, map}
use Rattle.mt_marks.specs.Remembered.{remembered}
use Rattle.mt_marks.specs.Told.{talks_in}
use Rattle.mt_runs.specs.Whole.{begun_in}
use Rattle.mt_marks.proofs.told.begun_talks.Given as goal

-- the talks so far, and those of the rows to come
abbrev pub invariant-loop-row : goal.invariant-loop-row
invariant-loop-row l = talks_in l.talks.items ++ map remembered (begun_in l.boot (drop l.row-index l.rows)) ≡ map remembered (begun_in l.boot l.rows)
