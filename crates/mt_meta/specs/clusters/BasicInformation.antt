-- Basic Information: the node's own data.
use Rattle.std.specs.Prelude.{ℕ, List, [], ◌∷◌}
use Rattle.mt_model.specs.declared.tables.access.Privilege.TheVariants.{View, Manage, Administer}
use Rattle.mt_model.specs.declared.limits.TheConstants.{LOCATION_BYTES, NODE_LABEL_BYTES}
use Rattle.mt_meta.specs.declared.meta.Kind.TheVariants as kinds
use Rattle.mt_meta.specs.declared.rows.AttributeRow.{AttributeRow}
use Rattle.mt_meta.specs.declared.rows.EventRow.{EventRow}
use Rattle.mt_meta.specs.declared.rows.FirstValue.TheVariants as first
use Rattle.mt_meta.specs.declared.rows.Form.TheVariants as forms
use Rattle.mt_meta.specs.Rows.{plain, written_by, at_least, taking, kept, stored, event}

abbrev pub cluster : ℕ
cluster = 0x28

abbrev pub attributes : List AttributeRow
attributes =
    plain 0 kinds.Uint  -- DataModelRevision
    ∷ plain 1 kinds.Text  -- VendorName
    ∷ plain 2 kinds.Uint  -- VendorID
    ∷ plain 3 kinds.Text  -- ProductName
    ∷ plain 4 kinds.Uint  -- ProductID
    ∷ stored first.EmptyText (kept (taking (forms.Text 0 NODE_LABEL_BYTES) (written_by Manage NODE_LABEL_BYTES (plain 5 kinds.Text))))  -- NodeLabel
    ∷ stored (first.Country 88 88) (kept (taking (forms.Text LOCATION_BYTES LOCATION_BYTES) (at_least LOCATION_BYTES (written_by Administer LOCATION_BYTES (plain 6 kinds.Text)))))  -- Location: "XX"
    ∷ plain 7 kinds.Uint  -- HardwareVersion
    ∷ plain 8 kinds.Text  -- HardwareVersionString
    ∷ plain 9 kinds.Uint  -- SoftwareVersion
    ∷ plain 10 kinds.Text  -- SoftwareVersionString
    ∷ plain 19 kinds.Structure  -- CapabilityMinima
    ∷ []

abbrev pub events : List EventRow
events =
    event 0 View 2  -- StartUp
    ∷ event 2 View 1  -- Leave
    ∷ []
