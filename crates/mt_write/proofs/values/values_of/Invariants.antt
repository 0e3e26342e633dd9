use Rattle.std.proofs.Common.{◌≡◌, ◌++◌, length, map}
use Rattle.std.specs.Vec.Iter.{into_iter_items, into_iter_len}
use Rattle.mt_model.specs.declared.rows.place.Row.{Row}
use Rattle.mt_write.proofs.values.values_of.Given as goal

-- the values so far and those of the rows to come are the values of all rows
abbrev pub invariant-loop-row : goal.invariant-loop-row
invariant-loop-row l = record {
  so_far : l.values ++ map (λ (row : Row). row.value) (into_iter_items l.row-iterator) ≡ map (λ (row : Row). row.value) l.fn.rows.items;
  counted : into_iter_len l.row-iterator ≡ length (into_iter_items l.row-iterator);
}
