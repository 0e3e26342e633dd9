use Rattle.std.proofs.Common.{◌≡◌, ◌≤◌, ◌+◌, length}
use Rattle.std.specs.Prelude.{vec_capacity, vec_len}
use Rattle.mt_durable.specs.Setting.{with_all}
use Rattle.mt_durable.proofs.durable.set_all.Given as goal

abbrev pub invariant-loop-entry : goal.invariant-loop-entry
invariant-loop-entry l = record {
  next : (goal.iterator-loop-entry).can_next l.entry-iterator;
  finite : (goal.iterator-loop-entry).is_finite l.entry-iterator;
  rest : with_all l.entry-iterator.rest.items l.entries.items ≡ with_all l.fn.change.items l.fn.entries.items;
  room : vec_len l.entries + length l.entry-iterator.rest.items ≤ vec_capacity l.entries;
}
