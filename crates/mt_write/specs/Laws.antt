-- What a write touches and leaves, and when it is denied.
use Rattle.std.specs.Prelude.{◌≡◌, ◌↔◌, ◌==◌, not, Bool, true, false, List, [], Some, Err, IsTrue, if◌then◌else◌, ◌&&◌, ℕ, nat_le, Result, Ok, length}
use Rattle.std.specs.List.{list_all, list_any}
use Rattle.mt_acl.specs.Access.{implicit_grants, own_entry_grants}
use Rattle.mt_meta.specs.Finding.{find_data_of, find_of, privilege_of}
use Rattle.mt_meta.specs.Forms.{has_form}
use Rattle.mt_meta.specs.Stored.{is_stored}
use Rattle.mt_meta.specs.declared.meta.Meta.{Meta}
use Rattle.mt_meta.specs.declared.finding.Asked.TheVariants.{Write}
use Rattle.mt_model.specs.declared.limits.TheConstants.{ENTRIES}
use Rattle.mt_model.specs.texts.Config.{is_entry}
use Rattle.mt_model.specs.rows.Seen.{Seen}
use Rattle.mt_model.specs.declared.tables.access.AclEntry.{AclEntry}
use Rattle.mt_model.specs.declared.messages.status.Status.{Status}
use Rattle.mt_tlv.specs.declared.value.Value.{Value}
use Rattle.mt_model.specs.declared.tables.access.Actor.{Actor}
use Rattle.mt_model.specs.declared.tables.access.Privilege.{Privilege}
use Rattle.mt_model.specs.declared.node.action.NodeStep.{NodeStep}
use Rattle.mt_model.specs.declared.node.action.NodeStep.TheVariants.{SetRow, SetEntries, Emit}
use Rattle.mt_model.specs.declared.messages.message.WriteItem.{WriteItem}
use Rattle.mt_model.specs.declared.rows.place.Place.{Place}
use Rattle.mt_model.specs.declared.messages.status.Status.TheVariants.{UnsupportedAccess}
use Rattle.mt_write.specs.Writing.{fabric_of, is_scoped, item_step, own_values, write_answer}

-- a step sets what is the asker's own, or nobody's where a place is not scoped, or tells the asker's fabric of something
abbrev pub is_own_step : Actor → NodeStep → Bool
is_own_step actor (SetRow place fabric values) = fabric == (if is_scoped (find_data_of place) then actor.fabric else 0)
is_own_step actor (SetEntries fabric entries) = fabric == actor.fabric
is_own_step actor (Emit place priority fabric value) = fabric == actor.fabric
is_own_step actor step = false

abbrev pub TouchesItsOwn : Type 0
TouchesItsOwn = (seen : Seen) (actor : Actor) (items : List WriteItem) (timed : Bool) → IsTrue (list_all (is_own_step actor) (write_answer seen actor items timed).rows)

-- a step sets the row of a place that is not scoped, or sets nothing
abbrev pub is_unscoped_step : NodeStep → Bool
is_unscoped_step (SetRow place fabric values) = not (is_scoped (find_data_of place))
is_unscoped_step (Emit place priority fabric value) = true
is_unscoped_step step = false

-- A writer of no fabric, for whom no entry stands, sets nothing that is scoped.
abbrev pub NobodySetsScoped : Type 0
NobodySetsScoped = (seen : Seen) (actor : Actor) (items : List WriteItem) (timed : Bool) → actor.fabric ≡ 0 → seen.entries ≡ []
    → IsTrue (list_all is_unscoped_step (write_answer seen actor items timed).rows)

-- A privilege is asked of whoever writes there, and neither the implicit entry nor an entry of the writer's own fabric grants it.
pub record IsDenied (seen : Seen) (actor : Actor) (place : Place) : Type 0 where
  pub asked : Privilege
  pub is : privilege_of place Write ≡ Some asked
  pub implicit : implicit_grants actor (is_scoped (find_of place)) ≡ false
  pub entries : list_any (own_entry_grants actor place asked) seen.entries ≡ false

-- An item that names one place is refused with the status 7E exactly where that is denied, whatever steps stand before it.
abbrev pub DeniesWritesExactly : Type 0
DeniesWritesExactly = (seen : Seen) (actor : Actor) (timed : Bool) (steps : List NodeStep) (item : WriteItem) (place : Place)
    → (item_step seen actor timed steps item (Some place) ≡ Err UnsupportedAccess) ↔ IsDenied seen actor place

-- What a step sets is such as a state keeps there.

-- of a scoped list at most as many items as a fabric may have, of every other attribute one value
abbrev pub are_as_many : Meta → List Value → Bool
are_as_many meta values = if meta.scoped then nat_le (length values) meta.limit else length values == 1

-- values of the attribute's form at a stored place, which are this fabric's, and as many as there may be
abbrev pub is_sound_row : Bool → ℕ → List Value → Result Meta Status → Bool
is_sound_row is_stored fabric values (Err status) = false
is_sound_row is_stored fabric values (Ok meta) = is_stored && (list_all (has_form meta fabric) values && are_as_many meta values)

abbrev pub is_entry_of : ℕ → AclEntry → Bool
is_entry_of fabric entry = is_entry entry && entry.fabric == fabric

-- entries of this fabric that keep the rules, and no more than it may have
abbrev pub are_entries_of : ℕ → List AclEntry → Bool
are_entries_of fabric entries = list_all (is_entry_of fabric) entries && nat_le (length entries) ENTRIES

abbrev pub is_sound_step : NodeStep → Bool
is_sound_step (SetRow place fabric values) = is_sound_row (is_stored place) fabric values (find_data_of place)
is_sound_step (SetEntries fabric entries) = are_entries_of fabric entries
is_sound_step (Emit place priority fabric value) = true
is_sound_step step = false

-- What the writer's fabric sees is its own in its form, and no more than it may have.
pub record IsSoundSight (seen : Seen) (actor : Actor) : Type 0 where
  pub rows : (place : Place) (meta : Meta) → find_data_of place ≡ Ok meta → is_stored place ≡ true → list_all (has_form meta (fabric_of actor meta)) (own_values (fabric_of actor meta) (seen.rows_at place)) ≡ true
  pub few : (place : Place) (meta : Meta) → find_data_of place ≡ Ok meta → is_stored place ≡ true → meta.scoped ≡ true → nat_le (length (own_values (fabric_of actor meta) (seen.rows_at place))) meta.limit ≡ true
  pub entries : are_entries_of actor.fabric seen.entries ≡ true

abbrev pub LeavesSound : Type 0
LeavesSound = (seen : Seen) (actor : Actor) (items : List WriteItem) (timed : Bool) → IsSoundSight seen actor → IsTrue (list_all is_sound_step (write_answer seen actor items timed).rows)
