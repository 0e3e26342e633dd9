use Rattle.std.proofs.Common.{◌≡◌, ◌++◌, drop}
use Rattle.mt_marks.specs.Seen.{other_rows}
use Rattle.mt_marks.proofs.making.push_others.Given as goal

-- the rows so far, and those to come
abbrev pub invariant-loop-row : goal.invariant-loop-row
invariant-loop-row l = l.seen.items ++ other_rows l.fabric (drop l.row-index l.rows) ≡ l.fn.seen.items ++ other_rows l.fabric l.rows
