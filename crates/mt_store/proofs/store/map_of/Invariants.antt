use Rattle.std.proofs.Common.{◌≡◌}
use Rattle.mt_durable.specs.Changes.{entry_trees}
use Rattle.mt_tlv.specs.Limits.{IsAllowed, deepest}
use Rattle.mt_tlv.specs.Tree.{array}
use Rattle.mt_store.specs.Leading.{map_after, map_of}
use Rattle.mt_store.proofs.store.map_of.Given as goal

-- the map so far leads to that of the list
abbrev pub invariant-loop-change : goal.invariant-loop-change
invariant-loop-change l = record {
  next : (goal.iterator-loop-change).can_next l.change-iterator;
  finite : (goal.iterator-loop-change).is_finite l.change-iterator;
  leads : map_after l.map l.change-iterator.rest.items ≡ map_of l.fn.list.items;
  allowed : IsAllowed (array (entry_trees l.map)) deepest;
}
