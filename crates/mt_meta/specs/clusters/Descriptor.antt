-- Descriptor: what stands on an endpoint.
use Rattle.std.specs.Prelude.{ℕ, List, [], ◌∷◌}
use Rattle.mt_meta.specs.declared.meta.Kind.TheVariants as kinds
use Rattle.mt_meta.specs.declared.rows.AttributeRow.{AttributeRow}
use Rattle.mt_meta.specs.Rows.{plain}

abbrev pub cluster : ℕ
cluster = 0x1d

abbrev pub attributes : List AttributeRow
attributes =
    plain 0 kinds.DeviceTypes  -- DeviceTypeList
    ∷ plain 1 kinds.Numbers  -- ServerList
    ∷ plain 2 kinds.Numbers  -- ClientList
    ∷ plain 3 kinds.Numbers  -- PartsList
    ∷ []
