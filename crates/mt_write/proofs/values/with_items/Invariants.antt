use Rattle.std.proofs.Common.{◌≡◌, ◌++◌, length, map}
use Rattle.std.specs.Vec.Iter.{into_iter_items, into_iter_len}
use Rattle.mt_write.proofs.Elements.{untagged}
use Rattle.mt_write.proofs.values.with_items.Given as goal

-- the members so far and those of the items to come are all members
abbrev pub invariant-loop-item : goal.invariant-loop-item
invariant-loop-item l = record {
  so_far : l.all.items ++ map untagged (into_iter_items l.item-iterator) ≡ l.fn.there.items ++ map untagged l.fn.items;
  counted : into_iter_len l.item-iterator ≡ length (into_iter_items l.item-iterator);
}
