-- Basic Information.
use Rattle.std.specs.Prelude.{ℕ, ◌==◌, Option, Some, None, codes, if◌then◌else◌}
use Rattle.mt_tlv.specs.Tree.{uint, none, more}
use Rattle.mt_tlv.specs.declared.value.Tag.TheVariants.{Context}
use Rattle.mt_tlv.specs.declared.value.Value.{Value}
use Rattle.mt_tlv.specs.declared.value.Value.TheVariants as values
use Rattle.mt_model.specs.declared.limits.TheConstants.{CASE_SESSIONS, SUBSCRIPTIONS}

-- CapabilityMinimaStruct: 0 CASE sessions of a fabric, 1 subscriptions of a fabric
abbrev pub minima_value : Value
minima_value = values.Struct (more (Context 0) (uint CASE_SESSIONS) (more (Context 1) (uint SUBSCRIPTIONS) none))

abbrev pub basic_information_value : ℕ → Option Value
basic_information_value leaf =
    if leaf == 0 then Some (values.Uint 1)  -- DataModelRevision
    else if leaf == 1 then Some (values.Text (codes "Bench"))  -- VendorName
    else if leaf == 2 then Some (values.Uint 0xfff1)  -- VendorID
    else if leaf == 3 then Some (values.Text (codes "Bench node"))  -- ProductName
    else if leaf == 4 then Some (values.Uint 0x8000)  -- ProductID
    else if leaf == 7 then Some (values.Uint 0)  -- HardwareVersion
    else if leaf == 8 then Some (values.Text (codes "0"))  -- HardwareVersionString
    else if leaf == 9 then Some (values.Uint 1)  -- SoftwareVersion
    else if leaf == 10 then Some (values.Text (codes "1"))  -- SoftwareVersionString
    else if leaf == 19 then Some minima_value  -- CapabilityMinima
    else None
