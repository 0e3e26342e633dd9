use Rattle.std.proofs.Common.{◌≡◌, ◌+◌, ◌-◌, ◌≤◌, ◌++◌, drop, max, take, vec_capacity, vec_len}
use Rattle.mt_model.proofs.rows.setting.cut.Given as goal

-- what stood from here to the counter is gone
abbrev pub invariant-loop : goal.invariant-loop
invariant-loop g l = record {
  items : l.items.items ≡ take l.at l.fn.items.items ++ drop l.counter l.fn.items.items;
  len : vec_len l.items + (l.counter - l.at) ≡ vec_len l.fn.items;
  from : l.at ≤ l.counter;
  within : l.counter ≤ max l.at l.end;
  capacity : vec_capacity l.items ≡ vec_capacity l.fn.items;
}
