use Rattle.std.proofs.Common.{◌≡◌, ◌++◌, drop}
use Rattle.mt_marks.specs.Seen.{other_rows}
use Rattle.mt_marks.specs.Placed.{standing}
use Rattle.mt_marks.proofs.making.rows_of_others.Given as goal

-- the rows so far, and those that stand at the places to come
abbrev pub invariant-loop-place : goal.invariant-loop-place
invariant-loop-place l = l.seen.items ++ other_rows l.fabric (standing (drop l.place-index l.place-items) l.rows) ≡ other_rows l.fabric l.rows
