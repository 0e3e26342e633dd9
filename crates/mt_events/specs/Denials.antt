-- When an event path is denied, and when an event is left out for want of a grant.
use Rattle.std.specs.Prelude.{◌≡◌, ◌↔◌, nat_le, true, false, [], ◌∷◌, Some}
use Rattle.std.specs.List.{list_any}
use Rattle.mt_acl.specs.Access.{implicit_grants, own_entry_grants}
use Rattle.mt_meta.specs.Finding.{privilege_of}
use Rattle.mt_meta.specs.Places.{is_named_by}
use Rattle.mt_meta.specs.declared.finding.Asked.TheVariants.{Event}
use Rattle.mt_model.specs.messages.Blocks.{path_of}
use Rattle.mt_model.specs.declared.messages.message.Happened.{Happened}
use Rattle.mt_model.specs.declared.messages.message.Item.TheVariants.{EventRefused}
use Rattle.mt_model.specs.declared.rows.place.Place.{Place}
use Rattle.mt_model.specs.declared.tables.access.Privilege.{Privilege}
use Rattle.mt_events.specs.Reading.{Asking, is_told, refusal_at}

-- Neither the implicit entry nor an entry of the reader's own fabric grants what is asked of whoever reads events there.
pub record IsDenied (asking : Asking) (place : Place) : Type 0 where
  pub asked : Privilege
  pub is : privilege_of place Event ≡ Some asked
  pub implicit : implicit_grants asking.actor false ≡ false
  pub entries : list_any (own_entry_grants asking.actor place asked) asking.entries ≡ false

-- A path that names one place is answered with the status 7E exactly where that is denied.
abbrev pub DeniesEventsExactly : Type 0
DeniesEventsExactly = (asking : Asking) (place : Place) → (refusal_at asking place ≡ EventRefused (path_of place) 0x7e ∷ []) ↔ IsDenied asking place

-- An event that is asked for, by a path and by its number, is not told exactly where that is denied.
abbrev pub LeavesOutEventsExactly : Type 0
LeavesOutEventsExactly = (asking : Asking) (e : Happened) → nat_le asking.minimum e.number ≡ true → is_named_by asking.paths e.place ≡ true
    → (is_told asking e ≡ false) ↔ IsDenied asking e.place
