-- What a command comes to, made of what the asker's fabric observes (Matter Core Specification, section 8.8, Invoke Interaction).
use Rattle.std.specs.Prelude.{ℕ, ◌==◌, ◌||◌, Bool, List, Result, Ok, Err, filter, if◌then◌else◌}
use Rattle.mt_tlv.specs.declared.value.Value.{Value}
use Rattle.mt_meta.specs.clusters.AdministratorCommissioning as administrator_commissioning
use Rattle.mt_meta.specs.clusters.GeneralCommissioning as general_commissioning
use Rattle.mt_meta.specs.clusters.GroupKeyManagement as group_key_management
use Rattle.mt_meta.specs.clusters.NetworkCommissioning as network_commissioning
use Rattle.mt_meta.specs.clusters.OperationalCredentials as operational_credentials
use Rattle.mt_meta.specs.declared.meta.CommandMeta.{CommandMeta}
use Rattle.mt_model.specs.messages.Effects.{refused_at}
use Rattle.mt_model.specs.rows.Seen.{Observation}
use Rattle.mt_model.specs.declared.messages.status.Status.{Status}
use Rattle.mt_model.specs.declared.messages.status.Status.TheVariants.{InvalidCommand}
use Rattle.mt_model.specs.declared.node.action.Effect.{Effect}
use Rattle.mt_model.specs.declared.rows.place.Place.{Place}
use Rattle.mt_model.specs.declared.rows.place.Row.{Row}
use Rattle.mt_model.specs.declared.tables.access.Actor.{Actor}
use Rattle.mt_admin.specs.Commands as admin
use Rattle.mt_apps.specs.Commands.{invoked}
use Rattle.mt_commission.specs.Commands as commission
use Rattle.mt_groupkeys.specs.Commands as group_keys
use Rattle.mt_invoke.specs.Checking.{checked, has_form}
use Rattle.mt_opcreds.specs.Commands as credentials
use Rattle.mt_machine.specs.Environment.{Environment}

-- the clusters by which fabrics join
abbrev pub is_commissioning : ℕ → Bool
is_commissioning cluster = cluster == general_commissioning.cluster || (cluster == network_commissioning.cluster || cluster == operational_credentials.cluster)

-- the rows of a place that are nobody's, which are those of attributes that are not scoped by fabric
abbrev pub nobodys_rows : Observation → Place → List Row
nobodys_rows o place = filter (λ (row : Row). row.fabric == 0) (o.seen.rows_at place)

-- the rows of a place that are the fabric's own
abbrev pub own_rows : Observation → Place → List Row
own_rows o place = filter (λ (row : Row). row.fabric == o.fabric) (o.seen.rows_at place)

-- clusters whose commands set rows and tell of events alone
abbrev pub of_others : Observation → Actor → Place → Value → Effect
of_others o actor command fields =
    if command.cluster == administrator_commissioning.cluster then admin.invoked (nobodys_rows o) o.known actor command fields o.clock
    else if command.cluster == group_key_management.cluster then group_keys.invoked (own_rows o) actor command fields
    else invoked (nobodys_rows o) actor command

abbrev pub carried_out : Environment → Observation → Actor → Place → Value → Effect
carried_out given o actor command fields =
    if command.cluster == operational_credentials.cluster then credentials.invoked given.judged o.known actor command fields
    else if is_commissioning command.cluster then commission.invoked o.known given.reachable actor command fields
    else of_others o actor command fields

-- the form of the fields is asked once nothing else stands in the way
abbrev pub unless_refused : Environment → Observation → Actor → Place → Value → Result CommandMeta Status → Effect
unless_refused given o actor command fields (Err status) = refused_at command status
unless_refused given o actor command fields (Ok meta) = if has_form command fields then carried_out given o actor command fields else refused_at command InvalidCommand

-- the reply to a command, and its steps, where the request was timed or was not
abbrev pub command_effect : Environment → Observation → Actor → Bool → Place → Value → Effect
command_effect given o actor timed command fields = unless_refused given o actor command fields (checked o.seen actor command timed)
