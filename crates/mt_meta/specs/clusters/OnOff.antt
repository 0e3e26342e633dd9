-- On/Off.
use Rattle.std.specs.Prelude.{ℕ, List, [], ◌∷◌, false}
use Rattle.mt_model.specs.declared.tables.access.Privilege.TheVariants.{Operate}
use Rattle.mt_meta.specs.declared.meta.Kind.TheVariants as kinds
use Rattle.mt_meta.specs.declared.rows.AttributeRow.{AttributeRow}
use Rattle.mt_meta.specs.declared.rows.CommandRow.{CommandRow}
use Rattle.mt_meta.specs.declared.rows.FirstValue.TheVariants as first
use Rattle.mt_meta.specs.Rows.{plain, kept, stored, invoked_by}

abbrev pub cluster : ℕ
cluster = 0x06

abbrev pub attributes : List AttributeRow
attributes =
    stored (first.Bool false) (kept (plain 0 kinds.Bool))  -- OnOff
    ∷ []

abbrev pub commands : List CommandRow
commands =
    invoked_by Operate 0  -- Off
    ∷ invoked_by Operate 1  -- On
    ∷ invoked_by Operate 2  -- Toggle
    ∷ []
