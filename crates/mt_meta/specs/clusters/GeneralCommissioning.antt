-- General Commissioning.
use Rattle.std.specs.Prelude.{ℕ, List, [], ◌∷◌, ◌==◌, if◌then◌else◌}
use Rattle.mt_model.specs.declared.tables.access.Privilege.TheVariants.{Administer}
use Rattle.mt_meta.specs.declared.meta.Kind.TheVariants as kinds
use Rattle.mt_meta.specs.declared.rows.AttributeRow.{AttributeRow}
use Rattle.mt_meta.specs.declared.rows.CommandRow.{CommandRow}
use Rattle.mt_meta.specs.declared.rows.Field.{Field}
use Rattle.mt_meta.specs.declared.rows.FirstValue.TheVariants as first
use Rattle.mt_meta.specs.declared.rows.Form.TheVariants as forms
use Rattle.mt_meta.specs.Rows.{plain, written_by, taking, kept, stored, invoked_by, scoped_command, needed, any_number}

abbrev pub cluster : ℕ
cluster = 0x30

abbrev pub attributes : List AttributeRow
attributes =
    stored (first.Uint 0) (taking (forms.Uint 0xffffffffffffffff) (written_by Administer 0 (plain 0 kinds.Uint)))  -- Breadcrumb
    ∷ plain 1 kinds.Structure  -- BasicCommissioningInfo
    ∷ stored (first.Uint 2) (kept (plain 2 kinds.Uint))  -- RegulatoryConfig
    ∷ plain 3 kinds.Uint  -- LocationCapability
    ∷ plain 4 kinds.Bool  -- SupportsConcurrentConnection
    ∷ []

abbrev pub commands : List CommandRow
commands =
    invoked_by Administer 0  -- ArmFailSafe
    ∷ invoked_by Administer 2  -- SetRegulatoryConfig
    ∷ scoped_command (invoked_by Administer 4)  -- CommissioningComplete
    ∷ []

abbrev pub responses : List ℕ
responses =
    1  -- ArmFailSafeResponse
    ∷ 3  -- SetRegulatoryConfigResponse
    ∷ 5  -- CommissioningCompleteResponse
    ∷ []

-- the fields of commands

abbrev pub arm_fail_safe_fields : List Field
arm_fail_safe_fields =
    needed 0 (forms.Uint 0xffff)  -- ExpiryLengthSeconds
    ∷ needed 1 any_number  -- Breadcrumb
    ∷ []

abbrev pub set_regulatory_config_fields : List Field
set_regulatory_config_fields =
    needed 0 any_number  -- NewRegulatoryConfig
    ∷ needed 1 (forms.Text 2 2)  -- CountryCode
    ∷ needed 2 any_number  -- Breadcrumb
    ∷ []

abbrev pub command_fields : ℕ → List Field
command_fields command =
    if command == 0 then arm_fail_safe_fields
    else if command == 2 then set_regulatory_config_fields
    else []
