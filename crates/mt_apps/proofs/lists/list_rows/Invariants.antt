use Rattle.std.proofs.Common.{◌≡◌, ◌++◌, drop, map}
use Rattle.mt_apps.specs.Lists.{item_row}
use Rattle.mt_apps.proofs.lists.list_rows.Given as goal

-- the rows so far and those of the items to come are the rows of all items
abbrev pub invariant-loop-item : goal.invariant-loop-item
invariant-loop-item g l = l.rows.items ++ map (item_row g.L.Item.FabricItem.fabric g.L.FabricList.value l.place) (drop l.item-index l.items) ≡ map (item_row g.L.Item.FabricItem.fabric g.L.FabricList.value l.place) l.items
