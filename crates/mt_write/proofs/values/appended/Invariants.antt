use Rattle.std.proofs.Common.{◌≡◌, ◌++◌, length}
use Rattle.std.specs.Vec.Iter.{into_iter_items, into_iter_len}
use Rattle.mt_write.proofs.values.appended.Given as goal

-- the items so far and those to come are all items
abbrev pub invariant-loop-item : goal.invariant-loop-item
invariant-loop-item g l = record {
  so_far : l.all ++ into_iter_items l.item-iterator ≡ l.fn.there ++ l.fn.items;
  counted : into_iter_len l.item-iterator ≡ length (into_iter_items l.item-iterator);
}
