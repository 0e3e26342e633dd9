-- When a command is denied.
use Rattle.std.specs.Prelude.{◌≡◌, ◌↔◌, Bool, false, Some, Err}
use Rattle.std.specs.List.{list_any}
use Rattle.mt_acl.specs.Access.{implicit_grants, own_entry_grants}
use Rattle.mt_meta.specs.Finding.{find_command_of, privilege_of}
use Rattle.mt_meta.specs.declared.finding.Asked.TheVariants.{Command}
use Rattle.mt_model.specs.rows.Seen.{Seen}
use Rattle.mt_model.specs.declared.rows.place.Place.{Place}
use Rattle.mt_model.specs.declared.tables.access.Actor.{Actor}
use Rattle.mt_model.specs.declared.tables.access.Privilege.{Privilege}
use Rattle.mt_model.specs.declared.messages.status.Status.TheVariants.{UnsupportedAccess}
use Rattle.mt_invoke.specs.Checking.{checked, is_scoped}

-- A privilege is asked of whoever invokes the command, and neither the implicit entry nor an entry of the actor's own fabric
-- grants it.
pub record IsDenied (seen : Seen) (actor : Actor) (command : Place) : Type 0 where
  pub asked : Privilege
  pub is : privilege_of command Command ≡ Some asked
  pub implicit : implicit_grants actor (is_scoped (find_command_of command)) ≡ false
  pub entries : list_any (own_entry_grants actor command asked) seen.entries ≡ false

abbrev pub DeniesCommandsExactly : Type 0
DeniesCommandsExactly = (seen : Seen) (actor : Actor) (command : Place) (timed : Bool) → (checked seen actor command timed ≡ Err UnsupportedAccess) ↔ IsDenied seen actor command
