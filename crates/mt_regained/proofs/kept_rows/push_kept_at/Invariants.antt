use Rattle.std.proofs.Common.{◌≡◌, ◌++◌, drop, filter}
use Rattle.mt_model.specs.rows.Sight.{stands_at}
use Rattle.mt_regained.proofs.kept_rows.push_kept_at.Given as goal

-- the rows so far, and those of the place that are to come
abbrev pub invariant-loop-row : goal.invariant-loop-row
invariant-loop-row l = l.rows.items ++ filter (stands_at l.place) (drop l.row-index l.kept) ≡ l.fn.rows.items ++ filter (stands_at l.place) l.kept
