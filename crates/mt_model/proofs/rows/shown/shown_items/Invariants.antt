use Rattle.std.proofs.Common.{◌≡◌, ◌++◌, drop}
use Rattle.std.specs.List.{flat_map}
use Rattle.mt_model.specs.rows.Shown.{shown_item}
use Rattle.mt_model.proofs.rows.shown.shown_items.Given as goal

-- the items so far and those of the rows to come are the items of all rows
abbrev pub invariant-loop-row : goal.invariant-loop-row
invariant-loop-row l = l.items.items ++ flat_map (shown_item l.fabric l.own) (drop l.row-index l.rows) ≡ flat_map (shown_item l.fabric l.own) l.rows
