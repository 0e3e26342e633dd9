-- Bench, a cluster of this project: a list in which each fabric has items of its own, and a number.
use Rattle.std.specs.Prelude.{ℕ, List, [], ◌∷◌}
use Rattle.mt_model.specs.declared.tables.access.Privilege.TheVariants.{View, Operate}
use Rattle.mt_model.specs.declared.limits.TheConstants.{LIST_ITEMS, BENCH_NAME_BYTES, BENCH_SECRET_BYTES}
use Rattle.mt_meta.specs.declared.meta.Kind.TheVariants as kinds
use Rattle.mt_meta.specs.declared.rows.AttributeRow.{AttributeRow}
use Rattle.mt_meta.specs.declared.rows.CommandRow.{CommandRow}
use Rattle.mt_meta.specs.declared.rows.EventRow.{EventRow}
use Rattle.mt_meta.specs.declared.rows.Field.{Field}
use Rattle.mt_meta.specs.declared.rows.FirstValue.TheVariants as first
use Rattle.mt_meta.specs.declared.rows.Form.TheVariants as forms
use Rattle.mt_meta.specs.declared.rows.Sensitive.TheVariants.{OneField}
use Rattle.mt_meta.specs.Rows.{plain, written_by, taking, taking_items, scoped, timed, kept, stored, stored_items, hiding, invoked_by, scoped_command, timed_command, event, needed, fabric_field}

abbrev pub cluster : ℕ
cluster = 0xfff1fc00

abbrev pub attributes : List AttributeRow
attributes =
    hiding (OneField 2) (stored_items (scoped (kept (taking_items (written_by Operate LIST_ITEMS (plain 0 kinds.Bench))))))  -- the list: the secret
    ∷ stored (first.Uint 0) (timed (kept (taking (forms.Uint 0xffffffff) (written_by Operate 0 (plain 1 kinds.Uint32)))))  -- the number
    ∷ []

abbrev pub commands : List CommandRow
commands =
    timed_command (scoped_command (invoked_by Operate 0))  -- Ring
    ∷ []

abbrev pub events : List EventRow
events =
    event 0 View 1  -- Rung
    ∷ []

-- the fields of an item
abbrev pub fields : List Field
fields =
    needed 1 (forms.Text 0 BENCH_NAME_BYTES)  -- the name
    ∷ needed 2 (forms.Octets 0 BENCH_SECRET_BYTES)  -- the secret
    ∷ fabric_field
    ∷ []
