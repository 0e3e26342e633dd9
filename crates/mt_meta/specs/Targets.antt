-- The target that an item of an access control entry is (Matter Core Specification, section 9.10, Access Control Cluster). Numbers
-- have the widths that a target has for them.
use Rattle.std.specs.Prelude.{ℕ, nat_le, Bool, true, false, Option, Some, None, is_some, if◌then◌else◌}
use Rattle.mt_tlv.specs.Tree.{Tree, uint, null, structure}
use Rattle.mt_model.specs.tables.Entries.{target_with}
use Rattle.mt_model.specs.Trees.{field_in}
use Rattle.mt_model.specs.declared.tables.access.Target.{Target}

abbrev pub is_unsigned : Tree → Bool
is_unsigned (uint n) = true
is_unsigned tree = false

-- a number of at most this size, or null
abbrev pub nullable_in : ℕ → Tree → Option (Option ℕ)
nullable_in greatest null = Some None
nullable_in greatest (uint n) = if nat_le n greatest then Some (Some n) else None
nullable_in greatest tree = None

-- a field that is missing is read as null
abbrev pub nullable_field : ℕ → Option Tree → Option (Option ℕ)
nullable_field greatest None = Some None
nullable_field greatest (Some tree) = nullable_in greatest tree

-- 0 cluster, 1 endpoint, 2 device type
abbrev pub target_in : Tree → Option Target
target_in (structure es) = target_with (nullable_field 0xffffffff (field_in 0 es)) (nullable_field 0xffff (field_in 1 es)) (nullable_field 0xffffffff (field_in 2 es))
target_in tree = None

abbrev pub is_target : Tree → Bool
is_target tree = is_some (target_in tree)
