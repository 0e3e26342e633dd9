use Rattle.std.proofs.Common.{◌≡◌, ◌++◌}
use Rattle.std.specs.Vec.Iter.{into_iter_items}
use Rattle.mt_model.proofs.rows.stored.StoredRows.from_vec.Given as goal

abbrev pub invariant-loop-row : goal.invariant-loop-row
invariant-loop-row l = l.stored ++ into_iter_items l.row-iterator ≡ l.fn.rows.items
