-- Binding.
use Rattle.std.specs.Prelude.{ℕ, List, [], ◌∷◌}
use Rattle.mt_model.specs.declared.tables.access.Privilege.TheVariants.{Manage}
use Rattle.mt_model.specs.declared.limits.TheConstants.{LIST_ITEMS}
use Rattle.mt_meta.specs.declared.meta.Kind.TheVariants as kinds
use Rattle.mt_meta.specs.declared.rows.AttributeRow.{AttributeRow}
use Rattle.mt_meta.specs.declared.rows.Field.{Field}
use Rattle.mt_meta.specs.declared.rows.Form.TheVariants as forms
use Rattle.mt_meta.specs.Rows.{plain, written_by, taking_items, scoped, kept, stored_items, optional, fabric_field}

abbrev pub cluster : ℕ
cluster = 0x1e

abbrev pub attributes : List AttributeRow
attributes =
    stored_items (scoped (kept (taking_items (written_by Manage LIST_ITEMS (plain 0 kinds.Binding)))))  -- Binding
    ∷ []

-- the fields of an item
abbrev pub fields : List Field
fields =
    optional 1 (forms.Uint 0xffffffffffffffff)  -- Node
    ∷ optional 3 (forms.Uint 0xffff)  -- Endpoint
    ∷ optional 4 (forms.Uint 0xffffffff)  -- Cluster
    ∷ fabric_field
    ∷ []
