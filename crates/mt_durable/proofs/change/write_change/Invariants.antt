use Rattle.std.proofs.Common.{◌≡◌}
use Rattle.mt_durable.specs.Changes.{entry_trees}
use Rattle.mt_durable.proofs.Structures.{followed_by}
use Rattle.mt_durable.proofs.change.write_change.Given as goal

abbrev pub invariant-loop-entry : goal.invariant-loop-entry
invariant-loop-entry l = record {
  next : (goal.iterator-loop-entry).can_next l.entry-iterator;
  finite : (goal.iterator-loop-entry).is_finite l.entry-iterator;
  rest : followed_by l.structures.items (entry_trees l.entry-iterator.rest.items) ≡ entry_trees l.fn.change;
  out : l.out.items ≡ l.fn.out.items;
}
