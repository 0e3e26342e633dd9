-- User Label.
use Rattle.std.specs.Prelude.{ℕ, List, [], ◌∷◌}
use Rattle.mt_model.specs.declared.tables.access.Privilege.TheVariants.{Manage}
use Rattle.mt_model.specs.declared.limits.TheConstants.{LIST_ITEMS, LABEL_TEXT_BYTES}
use Rattle.mt_meta.specs.declared.meta.Kind.TheVariants as kinds
use Rattle.mt_meta.specs.declared.rows.AttributeRow.{AttributeRow}
use Rattle.mt_meta.specs.declared.rows.Field.{Field}
use Rattle.mt_meta.specs.declared.rows.FirstValue.TheVariants as first
use Rattle.mt_meta.specs.declared.rows.Form.TheVariants as forms
use Rattle.mt_meta.specs.Rows.{plain, written_by, taking_items, kept, stored, needed}

abbrev pub cluster : ℕ
cluster = 0x41

abbrev pub attributes : List AttributeRow
attributes =
    stored first.EmptyArray (kept (taking_items (written_by Manage LIST_ITEMS (plain 0 kinds.Labels))))  -- LabelList
    ∷ []

-- the fields of an item
abbrev pub fields : List Field
fields =
    needed 0 (forms.Text 0 LABEL_TEXT_BYTES)  -- Label
    ∷ needed 1 (forms.Text 0 LABEL_TEXT_BYTES)  -- Value
    ∷ []
