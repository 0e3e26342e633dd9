use Rattle.std.proofs.Common.{◌≡◌, ◌++◌}
use Rattle.mt_grammar.proofs.kept.joined_entries.Given as goal

-- those so far, and those that are left, are all
abbrev pub invariant-loop-entry : goal.invariant-loop-entry
invariant-loop-entry l = record {
  next : (goal.iterator-loop-entry).can_next l.entry-iterator;
  finite : (goal.iterator-loop-entry).is_finite l.entry-iterator;
  joined : l.all ++ l.entry-iterator.rest.items ≡ l.fn.front ++ l.fn.back;
}
