use Rattle.std.proofs.Common.{◌≡◌, ◌++◌}
use Rattle.mt_grammar.proofs.kept.joined_rows.Given as goal

-- those so far, and those that are left, are all
abbrev pub invariant-loop-row : goal.invariant-loop-row
invariant-loop-row l = record {
  next : (goal.iterator-loop-row).can_next l.row-iterator;
  finite : (goal.iterator-loop-row).is_finite l.row-iterator;
  joined : l.all ++ l.row-iterator.rest.items ≡ l.fn.front ++ l.fn.back;
}
