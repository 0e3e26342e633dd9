use Rattle.std.proofs.Common.{◌≡◌, ◌++◌, drop, filter}
use Rattle.mt_model.specs.rows.Sight.{stands_at}
use Rattle.cases_im.proofs.node.SmallNodeSight.rows_at.Given as goal

-- the rows so far and those to come are all that stand at the place
abbrev pub invariant-loop-row : goal.invariant-loop-row
invariant-loop-row l = l.rows.items ++ filter (stands_at l.place) (drop l.row-index l.row-items) ≡ filter (stands_at l.place) l.row-items
