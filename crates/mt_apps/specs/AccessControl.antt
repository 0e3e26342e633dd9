-- Access Control.
use Rattle.std.specs.Prelude.{ℕ, ◌==◌, Option, Some, None, if◌then◌else◌}
use Rattle.mt_tlv.specs.declared.value.Value.{Value}
use Rattle.mt_tlv.specs.declared.value.Value.TheVariants as values
use Rattle.mt_model.specs.tables.Entries.{entry_value}
use Rattle.mt_model.specs.declared.tables.access.AclEntry.{AclEntry}
use Rattle.mt_model.specs.declared.limits.TheConstants.{ENTRIES, SUBJECTS, TARGETS}
use Rattle.mt_model.specs.declared.rows.place.Place.{Place}
use Rattle.mt_model.specs.declared.rows.place.Row.{Row}
use Rattle.mt_apps.specs.Lists.{item_row}

-- The list: a row for each entry.
abbrev pub entry_row : Place → AclEntry → Row
entry_row = item_row (λ (entry : AclEntry). entry.fabric) entry_value

abbrev pub access_control_value : ℕ → Option Value
access_control_value leaf =
    if leaf == 2 then Some (values.Uint SUBJECTS)  -- SubjectsPerAccessControlEntry
    else if leaf == 3 then Some (values.Uint TARGETS)  -- TargetsPerAccessControlEntry
    else if leaf == 4 then Some (values.Uint ENTRIES)  -- AccessControlEntriesPerFabric
    else None
