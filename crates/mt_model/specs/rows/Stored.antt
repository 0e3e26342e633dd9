-- Stored rows as they are kept: a map from each place to the rows that stand there.
use Rattle.std.specs.Prelude.{◌≡◌, true, Bool, List, [], ◌∷◌, is_some}
use Rattle.std.specs.BTreeMap.{BTreeMap, IsOrdered, get}
use Rattle.std.specs.Global.{Vec}
use Rattle.std.specs.List.{flat_map, list_all, list_any}
use Rattle.std.specs.declared.cmp.Ordering.{Ordering}
use Rattle.mt_model.specs.rows.Order.{are_ascending}
use Rattle.mt_model.specs.rows.Sight.{same_place, stands_at}
use Rattle.mt_model.specs.contracts.rows.place.PlaceOrd.TheImpl as place_ord
use Rattle.mt_model.specs.declared.rows.place.Place.{Place}
use Rattle.mt_model.specs.declared.rows.place.Row.{Row}

-- the places whose rows are stored, ascending
abbrev pub stored_places : List Place
stored_places =
    record { endpoint = 0; cluster = 0x28; leaf = 5 }  -- Basic Information: NodeLabel
    ∷ record { endpoint = 0; cluster = 0x28; leaf = 6 }  -- Location
    ∷ record { endpoint = 0; cluster = 0x30; leaf = 0 }  -- General Commissioning: Breadcrumb
    ∷ record { endpoint = 0; cluster = 0x30; leaf = 2 }  -- RegulatoryConfig
    ∷ record { endpoint = 0; cluster = 0x31; leaf = 4 }  -- Network Commissioning: InterfaceEnabled
    ∷ record { endpoint = 0; cluster = 0x31; leaf = 5 }  -- LastNetworkingStatus
    ∷ record { endpoint = 0; cluster = 0x31; leaf = 6 }  -- LastNetworkID
    ∷ record { endpoint = 0; cluster = 0x3c; leaf = 0 }  -- Administrator Commissioning: WindowStatus
    ∷ record { endpoint = 0; cluster = 0x3c; leaf = 1 }  -- AdminFabricIndex
    ∷ record { endpoint = 0; cluster = 0x3c; leaf = 2 }  -- AdminVendorId
    ∷ record { endpoint = 0; cluster = 0x3c; leaf = 0xfff10000 }  -- WindowEnd
    ∷ record { endpoint = 0; cluster = 0x3f; leaf = 0 }  -- Group Key Management: GroupKeyMap
    ∷ record { endpoint = 0; cluster = 0x3f; leaf = 0xfff10000 }  -- the key sets, which are no attribute's
    ∷ record { endpoint = 1; cluster = 0x06; leaf = 0 }  -- On/Off: OnOff
    ∷ record { endpoint = 1; cluster = 0x1e; leaf = 0 }  -- Binding: Binding
    ∷ record { endpoint = 1; cluster = 0x41; leaf = 0 }  -- User Label: LabelList
    ∷ record { endpoint = 1; cluster = 0xfff1fc00; leaf = 0 }  -- Bench: Items
    ∷ record { endpoint = 1; cluster = 0xfff1fc00; leaf = 1 }  -- Number
    ∷ []

-- whether the rows of a place are stored
abbrev pub is_stored_place : Place → Bool
is_stored_place place = list_any (same_place place) stored_places

-- How rows are kept.

-- the order of the map's places
abbrev pub place_order : Place → Place → Ordering
place_order = (place_ord.ghosts).cmp

-- the rows of all places, one place after the other
abbrev pub listed : List (Place × Vec Row) → List Row
listed places = flat_map (λ (kept : Place × Vec Row). kept.1.items) places

abbrev pub stand_there : Place × Vec Row → Bool
stand_there kept = list_all (stands_at kept.0) kept.1.items

abbrev pub has_place : BTreeMap Place (Vec Row) → Place → Bool
has_place places place = is_some (get place_order places place)

-- What holds of the map.
pub record IsKept (places : BTreeMap Place (Vec Row)) : Type 0 where
  pub ordered : IsOrdered place_order places
  -- each row stands at the place that it is kept under, and all of them ascend
  pub rows_stand : list_all stand_there places.entries ≡ true
  pub rows_ascend : are_ascending (listed places.entries) ≡ true
  -- no stored place is missing, also one that has no row now
  pub all_there : list_all (has_place places) stored_places ≡ true
