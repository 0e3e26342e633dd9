-- Administrator Commissioning.
use Rattle.std.specs.Prelude.{ℕ, List, [], ◌∷◌, ◌==◌, if◌then◌else◌}
use Rattle.mt_model.specs.declared.tables.access.Privilege.TheVariants.{Administer}
use Rattle.mt_meta.specs.declared.meta.Kind.TheVariants as kinds
use Rattle.mt_meta.specs.declared.rows.AttributeRow.{AttributeRow}
use Rattle.mt_meta.specs.declared.rows.CommandRow.{CommandRow}
use Rattle.mt_meta.specs.declared.rows.Field.{Field}
use Rattle.mt_meta.specs.declared.rows.FirstValue.TheVariants as first
use Rattle.mt_meta.specs.declared.rows.Form.TheVariants as forms
use Rattle.mt_meta.specs.Rows.{plain, stored, invoked_by, timed_command, needed, any_octets}

abbrev pub cluster : ℕ
cluster = 0x3c

abbrev pub attributes : List AttributeRow
attributes =
    stored (first.Uint 0) (plain 0 kinds.Uint)  -- WindowStatus
    ∷ stored first.Null (plain 1 kinds.NullableUint)  -- AdminFabricIndex
    ∷ stored first.Null (plain 2 kinds.NullableUint)  -- AdminVendorId
    ∷ []

-- those above the global ones
abbrev pub extensions : List AttributeRow
extensions =
    stored first.Null (plain 0xfff10000 kinds.NullableUint)  -- WindowEnd
    ∷ []

abbrev pub commands : List CommandRow
commands =
    timed_command (invoked_by Administer 0)  -- OpenCommissioningWindow
    ∷ timed_command (invoked_by Administer 1)  -- OpenBasicCommissioningWindow
    ∷ timed_command (invoked_by Administer 2)  -- RevokeCommissioning
    ∷ []

-- the fields of commands

abbrev pub open_fields : List Field
open_fields =
    needed 0 (forms.Uint 0xffff)  -- CommissioningTimeout
    ∷ needed 1 any_octets  -- PAKEPasscodeVerifier
    ∷ needed 2 (forms.Uint 0xffff)  -- Discriminator
    ∷ needed 3 (forms.Uint 0xffffffff)  -- Iterations
    ∷ needed 4 any_octets  -- Salt
    ∷ []

abbrev pub open_basic_fields : List Field
open_basic_fields =
    needed 0 (forms.Uint 0xffff)  -- CommissioningTimeout
    ∷ []

abbrev pub command_fields : ℕ → List Field
command_fields command =
    if command == 0 then open_fields
    else if command == 1 then open_basic_fields
    else []
