use Rattle.std.proofs.Common.{◌≡◌}
use Rattle.mt_tlv.specs.View.{elements}
use Rattle.mt_durable.specs.Reading.{entries_in}
use Rattle.mt_durable.proofs.Said.{with_those}
use Rattle.mt_durable.proofs.reading.entries_in.Given as goal

-- the entries so far and those of the members to come are those of all members
abbrev pub invariant-loop-tag : goal.invariant-loop-tag
invariant-loop-tag l = record {
  next : (goal.iterator-loop-tag).can_next l.tag-iterator;
  finite : (goal.iterator-loop-tag).is_finite l.tag-iterator;
  rest : with_those l.entries.items (entries_in (elements l.tag-iterator.rest.items)) ≡ entries_in (elements l.fn.members.items);
}
