use Rattle.std.proofs.Common.{◌≡◌, ◌++◌, true, drop, map}
use Rattle.std.specs.List.{flat_map}
use Rattle.mt_model.specs.rows.Shown.{shown_item}
use Rattle.mt_model.specs.declared.rows.place.Place.{Place}
use Rattle.mt_apps.specs.Lists.{item_row}
use Rattle.mt_apps.proofs.lists.list_items.Given as goal

-- the items so far and those of what is to come are the items of all
abbrev pub invariant-loop-item : goal.invariant-loop-item
invariant-loop-item g l = (place : Place) → g.L.FabricList.is_at place ≡ true → l.shown.items ++ flat_map (shown_item l.fabric l.own) (map (item_row g.L.Item.FabricItem.fabric g.L.FabricList.value place) (drop l.item-index l.items)) ≡ flat_map (shown_item l.fabric l.own) (map (item_row g.L.Item.FabricItem.fabric g.L.FabricList.value place) l.items)
