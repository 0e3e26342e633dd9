-- Access Control. The entries of the list are a part of the state of their own, from which the list is computed.
use Rattle.std.specs.Prelude.{ℕ, List, [], ◌∷◌}
use Rattle.mt_model.specs.declared.tables.access.Privilege.TheVariants.{Administer}
use Rattle.mt_model.specs.declared.limits.TheConstants.{ENTRIES}
use Rattle.mt_meta.specs.declared.meta.Kind.TheVariants as kinds
use Rattle.mt_meta.specs.declared.rows.AttributeRow.{AttributeRow}
use Rattle.mt_meta.specs.declared.rows.EventRow.{EventRow}
use Rattle.mt_meta.specs.declared.rows.Field.{Field}
use Rattle.mt_meta.specs.declared.rows.Form.TheVariants as forms
use Rattle.mt_meta.specs.declared.rows.Sensitive.TheVariants.{AllButFabric}
use Rattle.mt_meta.specs.Rows.{plain, read_by, written_by, taking_items, scoped, kept, hiding, event, needed, fabric_field}

abbrev pub cluster : ℕ
cluster = 0x1f

abbrev pub attributes : List AttributeRow
attributes =
    hiding AllButFabric (scoped (kept (taking_items (written_by Administer ENTRIES (read_by Administer (plain 0 kinds.Acl))))))  -- ACL
    ∷ plain 2 kinds.Uint  -- SubjectsPerAccessControlEntry
    ∷ plain 3 kinds.Uint  -- TargetsPerAccessControlEntry
    ∷ plain 4 kinds.Uint  -- AccessControlEntriesPerFabric
    ∷ []

abbrev pub events : List EventRow
events =
    event 0 Administer 1  -- AccessControlEntryChanged
    ∷ []

-- the fields of an entry
abbrev pub fields : List Field
fields =
    needed 1 (forms.Uint 0xffffffffffffffff)  -- Privilege
    ∷ needed 2 (forms.Uint 0xffffffffffffffff)  -- AuthMode
    ∷ needed 3 forms.Subjects
    ∷ needed 4 forms.Targets
    ∷ fabric_field
    ∷ []
