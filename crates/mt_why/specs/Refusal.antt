-- What an actor wants of a place, and what stands in its way.
use Rattle.std.specs.Prelude.{ℕ, Bool, false, Option, Some, None, Result, Ok, Err}
use Rattle.mt_acl.specs.Access.{is_granted_if_asked}
use Rattle.mt_tlv.specs.Tree.{Tree}
use Rattle.mt_meta.specs.Fields.{has_fields}
use Rattle.mt_meta.specs.Table.{command_fields}
use Rattle.mt_meta.specs.Finding.{find_command_of, find_event_of, find_of, privilege_of}
use Rattle.mt_meta.specs.declared.finding.Asked.{Asked}
use Rattle.mt_meta.specs.declared.finding.Asked.TheVariants.{Read, Write, Command, Event}
use Rattle.mt_meta.specs.declared.meta.CommandMeta.{CommandMeta}
use Rattle.mt_meta.specs.declared.meta.Meta.{Meta}
use Rattle.mt_model.specs.declared.messages.status.Status.{Status}
use Rattle.mt_model.specs.declared.node.state.NodeState.{NodeState}
use Rattle.mt_model.specs.declared.rows.place.Place.{Place}
use Rattle.mt_model.specs.rows.Sight.{version_in}
use Rattle.mt_why.specs.declared.refusals.Wish.{Wish}

abbrev pub err_of : {X : Type 0} → Result X Status → Option Status
err_of (Ok meta) = None
err_of (Err status) = Some status

-- the status of what is missing, None where the table has it
abbrev pub missing_at : Asked → Place → Option Status
missing_at Read place = err_of (find_of place)
missing_at Write place = err_of (find_of place)
missing_at Command place = err_of (find_command_of place)
missing_at Event place = err_of (find_event_of place)

abbrev pub is_so : {X : Type 0} → (X → Bool) → Result X Status → Bool
is_so test (Ok meta) = test meta
is_so test (Err status) = false

-- whether what is scoped by fabric is changed; a place that is not there is not scoped
abbrev pub is_scoped_change : Asked → Place → Bool
is_scoped_change Read place = false
is_scoped_change Write place = is_so (λ (meta : Meta). meta.scoped) (find_of place)
is_scoped_change Command place = is_so (λ (meta : CommandMeta). meta.scoped) (find_command_of place)
is_scoped_change Event place = false

-- whether it is written or called in timed interactions alone
abbrev pub is_timed : Asked → Place → Bool
is_timed Read place = false
is_timed Write place = is_so (λ (meta : Meta). meta.timed) (find_of place)
is_timed Command place = is_so (λ (meta : CommandMeta). meta.timed) (find_command_of place)
is_timed Event place = false

-- the actor is granted what is asked for what it wants
abbrev pub is_granted_to : NodeState → Wish → Bool
is_granted_to s wish = is_granted_if_asked s.entries wish.actor wish.place (privilege_of wish.place wish.what) (is_scoped_change wish.what wish.place)

-- whether the fields of a command have the form that the table gives them
abbrev pub has_form_at : Place → Tree → Bool
has_form_at command fields = has_fields (command_fields command.cluster command.leaf) fields

abbrev pub version_at : NodeState → Place → ℕ
version_at s place = version_in s.versions place.endpoint place.cluster
