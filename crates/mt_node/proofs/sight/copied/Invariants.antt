use Rattle.std.proofs.Common.{◌≡◌, ◌++◌, drop}
use Rattle.mt_node.proofs.sight.copied.Given as goal

-- the copies so far and the rows to come are the rows
abbrev pub invariant-loop-row : goal.invariant-loop-row
invariant-loop-row l = l.copied.items ++ drop l.row-index l.rows ≡ l.rows
