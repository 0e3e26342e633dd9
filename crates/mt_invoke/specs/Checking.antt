-- Whether a command may be carried out, made of what the actor's fabric sees: what the table says of it, or the first status
-- that stands in its way.
use Rattle.std.specs.Prelude.{◌&&◌, not, Bool, false, Result, Ok, Err, if◌then◌else◌}
use Rattle.mt_acl.specs.Access.{is_granted_if_asked}
use Rattle.mt_tlv.specs.View.{tree}
use Rattle.mt_tlv.specs.declared.value.Value.{Value}
use Rattle.mt_meta.specs.Fields.{has_fields}
use Rattle.mt_meta.specs.Finding.{find_command_of, privilege_of}
use Rattle.mt_meta.specs.Table.{command_fields}
use Rattle.mt_meta.specs.declared.finding.Asked.TheVariants.{Command}
use Rattle.mt_meta.specs.declared.meta.CommandMeta.{CommandMeta}
use Rattle.mt_model.specs.rows.Seen.{Seen}
use Rattle.mt_model.specs.declared.rows.place.Place.{Place}
use Rattle.mt_model.specs.declared.tables.access.Actor.{Actor}
use Rattle.mt_model.specs.declared.messages.status.Status.{Status}
use Rattle.mt_model.specs.declared.messages.status.Status.TheVariants.{NeedsTimedInteraction, UnsupportedAccess}

-- a command that is not there is not scoped
abbrev pub is_scoped : Result CommandMeta Status → Bool
is_scoped (Ok meta) = meta.scoped
is_scoped (Err status) = false

abbrev pub may_invoke : Seen → Actor → Place → Bool
may_invoke seen actor command = is_granted_if_asked seen.entries actor command (privilege_of command Command) (is_scoped (find_command_of command))

abbrev pub timely : Bool → CommandMeta → Result CommandMeta Status
timely timed meta = if meta.timed && not timed then Err NeedsTimedInteraction else Ok meta

abbrev pub if_found : Bool → Result CommandMeta Status → Result CommandMeta Status
if_found timed (Err status) = Err status
if_found timed (Ok meta) = timely timed meta

-- access comes before it is told that something is not there
abbrev pub checked : Seen → Actor → Place → Bool → Result CommandMeta Status
checked seen actor command timed = if may_invoke seen actor command then if_found timed (find_command_of command) else Err UnsupportedAccess

-- Whether these are fields of the command, as the table says. It is asked once nothing of the above stands in its way.
abbrev pub has_form : Place → Value → Bool
has_form command fields = has_fields (command_fields command.cluster command.leaf) (tree fields)
