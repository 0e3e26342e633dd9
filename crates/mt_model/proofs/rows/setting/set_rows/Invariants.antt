use Rattle.std.proofs.Common.{◌≡◌, ◌+◌, ◌-◌, ◌≤◌, ◌++◌, drop, length, map, min, take, vec_capacity, vec_len}
use Rattle.std.specs.Vec.Iter.{into_iter_items, into_iter_len}
use Rattle.mt_model.specs.rows.Order.{row_at}
use Rattle.mt_model.proofs.rows.setting.set_rows.Given as goal

-- In front of the place stand the rows below and the new ones so far, and behind it those that are not overwritten yet.
abbrev pub invariant-loop-value : goal.invariant-loop-value
invariant-loop-value l = record {
  so_far : take l.at l.rows.items ++ map (row_at l.place l.fabric) (into_iter_items l.value-iterator) ≡ take l.begin l.fn.rows.items ++ map (row_at l.place l.fabric) l.fn.values;
  behind : drop l.at l.rows.items ≡ drop (min l.at l.end) l.fn.rows.items;
  counted : into_iter_len l.value-iterator ≡ length (into_iter_items l.value-iterator);
  turns : l.at + into_iter_len l.value-iterator ≡ l.begin + length l.fn.values;
  from : l.begin ≤ l.at;
  len : vec_len l.rows ≡ vec_len l.fn.rows + (l.at - l.end);
  within : l.at ≤ vec_len l.rows;
  capacity : vec_capacity l.rows ≡ vec_capacity l.fn.rows;
}
