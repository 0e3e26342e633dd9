-- What the table says of a place, or the status with which what is not there is refused, and the privilege that is
-- asked of whoever wants something of a place.
use Rattle.std.specs.Prelude.{ℕ, ◌==◌, not, Bool, if◌then◌else◌, Option, Some, None, Result, Ok, Err, ok_or}
use Rattle.std.specs.List.{find, list_any}
use Rattle.std.specs.Option.{option_map}
use Rattle.std.specs.Result.{result_unwrap_or}
use Rattle.mt_model.specs.declared.tables.access.Privilege.{Privilege}
use Rattle.mt_model.specs.declared.tables.access.Privilege.TheVariants.{View}
use Rattle.mt_model.specs.declared.rows.place.Place.{Place}
use Rattle.mt_model.specs.declared.messages.status.Status.{Status}
use Rattle.mt_model.specs.declared.messages.status.Status.TheVariants.{UnsupportedEndpoint, UnsupportedCluster, UnsupportedAttribute, UnsupportedCommand, UnsupportedEvent}
use Rattle.mt_meta.specs.declared.finding.Asked.{Asked}
use Rattle.mt_meta.specs.declared.finding.Asked.TheVariants.{Read, Write, Command, Event}
use Rattle.mt_meta.specs.declared.meta.CommandMeta.{CommandMeta}
use Rattle.mt_meta.specs.declared.meta.EventMeta.{EventMeta}
use Rattle.mt_meta.specs.declared.meta.Meta.{Meta}
use Rattle.mt_meta.specs.declared.rows.AttributeRow.{AttributeRow}
use Rattle.mt_meta.specs.declared.rows.CommandRow.{CommandRow}
use Rattle.mt_meta.specs.declared.rows.EventRow.{EventRow}
use Rattle.mt_meta.specs.Table.{all_attributes_of, all_data_of, clusters_of, commands_of, endpoints, events_of}

abbrev pub is_endpoint : ℕ → Bool
is_endpoint endpoint = list_any (λ e. e == endpoint) endpoints

abbrev pub has_cluster : ℕ → ℕ → Bool
has_cluster endpoint cluster = list_any (λ c. c == cluster) (clusters_of endpoint)

-- the row of the place's attribute, command or event, whichever is asked for, in its cluster

abbrev pub attribute_of : Place → Option Meta
attribute_of place = option_map (λ (row : AttributeRow). row.meta) (find (λ row. row.number == place.leaf) (all_attributes_of place.cluster))

abbrev pub command_of : Place → Option CommandMeta
command_of place = option_map (λ (row : CommandRow). row.meta) (find (λ row. row.number == place.leaf) (commands_of place.cluster))

abbrev pub event_of : Place → Option EventMeta
event_of place = option_map (λ (row : EventRow). row.meta) (find (λ row. row.number == place.leaf) (events_of place.cluster))

-- first the endpoint must be there, then the cluster on it
abbrev pub missing_of : Place → Option Status
missing_of place = if not (is_endpoint place.endpoint) then Some UnsupportedEndpoint
    else if not (has_cluster place.endpoint place.cluster) then Some UnsupportedCluster
    else None

-- what is found, unless something before it is missing
abbrev pub found : {X : Type 0} → Option Status → Option X → Status → Result X Status
found (Some missing) row status = Err missing
found None row status = ok_or row status

abbrev pub find_of : Place → Result Meta Status
find_of place = found (missing_of place) (attribute_of place) UnsupportedAttribute

-- the data of the place, which is an attribute's or is hidden
abbrev pub data_of : Place → Option Meta
data_of place = option_map (λ (row : AttributeRow). row.meta) (find (λ row. row.number == place.leaf) (all_data_of place.cluster))

abbrev pub find_data_of : Place → Result Meta Status
find_data_of place = found (missing_of place) (data_of place) UnsupportedAttribute

abbrev pub find_command_of : Place → Result CommandMeta Status
find_command_of place = found (missing_of place) (command_of place) UnsupportedCommand

abbrev pub find_event_of : Place → Result EventMeta Status
find_event_of place = found (missing_of place) (event_of place) UnsupportedEvent

abbrev pub of_found : {X : Type 0} → (X → Option Privilege) → Result X Status → Result (Option Privilege) Status
of_found privilege (Ok meta) = Ok (privilege meta)
of_found privilege (Err status) = Err status

-- the privilege of what is there
abbrev pub privilege_found : Place → Asked → Result (Option Privilege) Status
privilege_found place Read = of_found (λ (meta : Meta). Some meta.read) (find_of place)
privilege_found place Write = of_found (λ (meta : Meta). meta.write) (find_of place)
privilege_found place Command = of_found (λ (meta : CommandMeta). Some meta.invoke) (find_command_of place)
privilege_found place Event = of_found (λ (meta : EventMeta). Some meta.read) (find_event_of place)

-- the privilege that is asked: View where there is nothing
abbrev pub privilege_of : Place → Asked → Option Privilege
privilege_of place what = result_unwrap_or (privilege_found place what) (Some View)
