-- Descriptor.
use Rattle.std.specs.Prelude.{ℕ, ◌==◌, List, [], ◌∷◌, Option, Some, None, if◌then◌else◌}
use Rattle.mt_tlv.specs.Tree.{Tree, uint, structure, none, more}
use Rattle.mt_tlv.specs.declared.value.Tag.TheVariants.{Context}
use Rattle.mt_tlv.specs.declared.value.Value.{Value}
use Rattle.mt_model.specs.rows.Devices.{device_of}
use Rattle.mt_model.specs.Trees.{array_of}
use Rattle.mt_meta.specs.Table.{clusters_of}
use Rattle.mt_apps.specs.Parts.{numbers}

-- DeviceTypeStruct: 0 device type, 1 revision
abbrev pub device_tree : ℕ → Tree
device_tree device = structure (more (Context 0) (uint device) (more (Context 1) (uint 1) none))

abbrev pub devices_value : Option ℕ → Value
devices_value None = array_of device_tree []
devices_value (Some device) = array_of device_tree (device ∷ [])

abbrev pub parts_of : ℕ → List ℕ
parts_of endpoint = if endpoint == 0 then 1 ∷ [] else []

abbrev pub descriptor_value : ℕ → ℕ → Option Value
descriptor_value endpoint leaf =
    if leaf == 0 then Some (devices_value (device_of endpoint))  -- DeviceTypeList
    else if leaf == 1 then Some (numbers (clusters_of endpoint))  -- ServerList
    else if leaf == 2 then Some (numbers [])  -- ClientList
    else if leaf == 3 then Some (numbers (parts_of endpoint))  -- PartsList
    else None
