use Rattle.std.proofs.Common.{◌≡◌, ◌++◌, drop}
use Rattle.mt_regained.proofs.kept_rows.push_all.Given as goal

-- the rows so far, and those to come
abbrev pub invariant-loop-row : goal.invariant-loop-row
invariant-loop-row l = l.rows.items ++ drop l.row-index l.more ≡ l.fn.rows.items ++ l.more
