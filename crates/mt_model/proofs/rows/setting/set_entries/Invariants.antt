use Rattle.std.proofs.Common.{◌≡◌, ◌+◌, ◌-◌, ◌≤◌, ◌++◌, drop, length, min, take, vec_capacity, vec_len}
use Rattle.std.specs.Vec.Iter.{into_iter_items, into_iter_len}
use Rattle.mt_model.proofs.rows.setting.set_entries.Given as goal

-- In front of the place stand the entries below and the new ones so far, and behind it those that are not overwritten yet.
abbrev pub invariant-loop-entry : goal.invariant-loop-entry
invariant-loop-entry l = record {
  so_far : take l.at l.entries.items ++ into_iter_items l.entry-iterator ≡ take l.begin l.fn.entries.items ++ l.fn.new;
  behind : drop l.at l.entries.items ≡ drop (min l.at l.end) l.fn.entries.items;
  counted : into_iter_len l.entry-iterator ≡ length (into_iter_items l.entry-iterator);
  turns : l.at + into_iter_len l.entry-iterator ≡ l.begin + length l.fn.new;
  from : l.begin ≤ l.at;
  len : vec_len l.entries ≡ vec_len l.fn.entries + (l.at - l.end);
  within : l.at ≤ vec_len l.entries;
  capacity : vec_capacity l.entries ≡ vec_capacity l.fn.entries;
}
