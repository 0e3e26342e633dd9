use Rattle.std.proofs.Common.{◌≡◌, map, take}
use Rattle.mt_model.specs.declared.rows.place.Row.{Row}
use Rattle.mt_node.proofs.differences.are_values.Given as goal

-- the values so far are the same
abbrev pub invariant-loop-i : goal.invariant-loop-i
invariant-loop-i l = map (λ (row : Row). row.value) (take l.i l.rows) ≡ take l.i l.values
