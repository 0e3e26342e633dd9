-- When a read is denied.
use Rattle.std.specs.Prelude.{◌≡◌, ◌↔◌, ◌⊎◌, Bool, true, false, List, [], ◌∷◌, Some, Ok}
use Rattle.std.specs.List.{list_any}
use Rattle.mt_acl.specs.Access.{implicit_grants, own_entry_grants}
use Rattle.mt_meta.specs.Finding.{find_of, privilege_of}
use Rattle.mt_meta.specs.declared.finding.Asked.TheVariants.{Read}
use Rattle.mt_meta.specs.declared.meta.Meta.{Meta}
use Rattle.mt_model.specs.messages.Blocks.{path_of}
use Rattle.mt_model.specs.rows.Seen.{Seen}
use Rattle.mt_model.specs.declared.tables.access.Actor.{Actor}
use Rattle.mt_model.specs.declared.tables.access.Privilege.{Privilege}
use Rattle.mt_model.specs.declared.messages.message.Item.TheVariants.{Refused}
use Rattle.mt_model.specs.declared.rows.place.Place.{Place}
use Rattle.mt_model.specs.declared.node.state.Version.{Version}
use Rattle.mt_read.specs.Reading.{concrete_items, is_known, wildcard_items}

-- Neither the implicit entry nor an entry of the reader's own fabric grants what is asked of whoever reads there.
pub record IsDenied (seen : Seen) (actor : Actor) (place : Place) : Type 0 where
  pub asked : Privilege
  pub is : privilege_of place Read ≡ Some asked
  pub implicit : implicit_grants actor false ≡ false
  pub entries : list_any (own_entry_grants actor place asked) seen.entries ≡ false

-- A path that names one place is answered with the status 7E exactly where that is denied.
abbrev pub DeniesReadsExactly : Type 0
DeniesReadsExactly = (seen : Seen) (actor : Actor) (filtered : Bool) (versions : List Version) (place : Place)
    → (concrete_items seen actor filtered versions place ≡ Refused (path_of place) 0x7e ∷ []) ↔ IsDenied seen actor place

-- A place of the table that a wildcard names is left out exactly where that is denied, or where the reader has the data of
-- its cluster in this version already.
abbrev pub LeavesOutAttributesExactly : Type 0
LeavesOutAttributesExactly = (seen : Seen) (actor : Actor) (filtered : Bool) (versions : List Version) (place : Place) (meta : Meta) → find_of place ≡ Ok meta
    → (wildcard_items seen actor filtered versions place ≡ []) ↔ (IsDenied seen actor place ⊎ (is_known seen versions place ≡ true))
