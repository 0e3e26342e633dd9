-- General Commissioning.
use Rattle.std.specs.Prelude.{ℕ, ◌==◌, true, Option, Some, None, if◌then◌else◌}
use Rattle.mt_tlv.specs.Tree.{uint, none, more}
use Rattle.mt_tlv.specs.declared.value.Tag.TheVariants.{Context}
use Rattle.mt_tlv.specs.declared.value.Value.{Value}
use Rattle.mt_tlv.specs.declared.value.Value.TheVariants as values

-- BasicCommissioningInfo: 0 how long the fail-safe is armed at first, 1 how long at most, in seconds
abbrev pub commissioning_info_value : Value
commissioning_info_value = values.Struct (more (Context 0) (uint 60) (more (Context 1) (uint 900) none))

abbrev pub general_commissioning_value : ℕ → Option Value
general_commissioning_value leaf =
    if leaf == 1 then Some commissioning_info_value  -- BasicCommissioningInfo
    else if leaf == 3 then Some (values.Uint 2)  -- LocationCapability
    else if leaf == 4 then Some (values.Bool true)  -- SupportsConcurrentConnection
    else None
