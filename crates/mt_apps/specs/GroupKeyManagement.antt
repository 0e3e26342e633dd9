-- Group Key Management.
use Rattle.std.specs.Prelude.{ℕ, ◌+◌, ◌==◌, Option, Some, None, if◌then◌else◌}
use Rattle.mt_tlv.specs.declared.value.Value.{Value}
use Rattle.mt_tlv.specs.declared.value.Value.TheVariants as values
use Rattle.mt_model.specs.declared.limits.TheConstants.{KEY_MAP_ITEMS, KEY_SETS}

abbrev pub group_key_management_value : ℕ → Option Value
group_key_management_value leaf =
    if leaf == 2 then Some (values.Uint KEY_MAP_ITEMS)  -- MaxGroupsPerFabric
    else if leaf == 3 then Some (values.Uint (KEY_SETS + 1))  -- MaxGroupKeysPerFabric, with set 0, which is always there
    else None
