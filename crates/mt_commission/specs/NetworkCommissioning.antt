-- Network Commissioning: what its commands come to (Matter Core Specification, chapter 11, Network Commissioning Cluster). An id
-- is a Wi-Fi network's SSID; a network's place is counted from 0.
use Rattle.std.specs.Prelude.{ℕ, ◌==◌, ◌&&◌, nat_le, nat_lt, Bool, List, [], ◌∷◌, ◌++◌, length, position, bytes_eq, Option, Some, None, Result, Ok, Err, ok_or, if◌then◌else◌}
use Rattle.std.specs.List.{list_any}
use Rattle.mt_tlv.specs.Tree.{Elements, uint, null, none, more}
use Rattle.mt_tlv.specs.declared.value.Tag.TheVariants.{Context}
use Rattle.mt_tlv.specs.declared.value.Value.{Value}
use Rattle.mt_tlv.specs.declared.value.Value.TheVariants as values
use Rattle.mt_model.specs.messages.Effects.{refused_at}
use Rattle.mt_model.specs.tables.Known.{Known}
use Rattle.mt_model.specs.texts.Config.{has_up_to}
use Rattle.mt_model.specs.declared.limits.TheConstants.{NETWORK_ID_BYTES, NETWORK_SECRET_BYTES, NETWORKS}
use Rattle.mt_model.specs.declared.messages.status.Status.TheVariants.{FailsafeRequired, UnsupportedCommand}
use Rattle.mt_model.specs.declared.node.action.Effect.{Effect}
use Rattle.mt_model.specs.declared.node.action.NodeStep.{NodeStep}
use Rattle.mt_model.specs.declared.node.action.NodeStep.TheVariants.{PutNetwork, RemoveNetwork, ConnectNetwork, MoveNetwork}
use Rattle.mt_model.specs.declared.rows.place.Place.{Place}
use Rattle.mt_model.specs.declared.tables.access.Actor.{Actor}
use Rattle.mt_model.specs.declared.tables.network.Network.{Network}
use Rattle.mt_failsafe.specs.Calls.{is_armed_by}
use Rattle.mt_commission.specs.Answers.{responded_with, set_breadcrumb, set_value}
use Rattle.mt_meta.specs.Given.{given_number, number_of, octets_of}
use Rattle.mt_commission.specs.declared.codes.NetworkStatus.{NetworkStatus}
use Rattle.mt_commission.specs.declared.codes.NetworkStatus.TheVariants as statuses

-- the numbers of the statuses
abbrev pub number_of_status : NetworkStatus → ℕ
number_of_status statuses.Success = 0
number_of_status statuses.OutOfRange = 1
number_of_status statuses.BoundsExceeded = 2
number_of_status statuses.NetworkIdNotFound = 3
number_of_status statuses.OtherConnectionFailure = 9

abbrev pub status_value : NetworkStatus → Value
status_value status = values.Uint (number_of_status status)

-- a command succeeds with the place of a network, or is refused with a status
abbrev pub Outcome : Type 0
Outcome = Result ℕ NetworkStatus

abbrev pub status_of : Outcome → NetworkStatus
status_of (Ok place) = statuses.Success
status_of (Err status) = status

-- Attributes that follow each command, also one that is refused.

-- an id has 1 to 32 bytes, and null stands for any other
abbrev pub id_value : List ℕ → Value
id_value id = if has_up_to NETWORK_ID_BYTES id then values.Octets id else values.Null

-- LastNetworkingStatus and LastNetworkID
abbrev pub last_steps : NetworkStatus → List ℕ → List NodeStep
last_steps status id = set_value 0x31 5 (status_value status) ∷ set_value 0x31 6 (id_value id) ∷ []

-- Breadcrumb, where it is given
abbrev pub breadcrumb_steps : Option ℕ → List NodeStep
breadcrumb_steps None = []
breadcrumb_steps (Some breadcrumb) = set_breadcrumb breadcrumb ∷ []

-- what a command on a network makes of the node, which is this step where it succeeds
abbrev pub network_steps : List ℕ → Option ℕ → NodeStep → Outcome → List NodeStep
network_steps id breadcrumb step (Ok place) = step ∷ last_steps statuses.Success id ++ breadcrumb_steps breadcrumb
network_steps id breadcrumb step (Err status) = last_steps status id

-- Responses.

-- NetworkConfigResponse: 0 NetworkingStatus, 2 NetworkIndex where it succeeds
abbrev pub config_fields : Outcome → Elements
config_fields (Ok place) = more (Context 0) (uint 0) (more (Context 2) (uint place) none)
config_fields (Err status) = more (Context 0) (uint (number_of_status status)) none

abbrev pub config_effect : Place → List ℕ → Option ℕ → NodeStep → Outcome → Effect
config_effect command id breadcrumb step outcome = responded_with command 5 (config_fields outcome) (network_steps id breadcrumb step outcome)

-- ConnectNetworkResponse: 0 NetworkingStatus, 2 ErrorValue, which is null
abbrev pub connect_fields : NetworkStatus → Elements
connect_fields status = more (Context 0) (uint (number_of_status status)) (more (Context 2) null none)

abbrev pub connect_effect : Place → List ℕ → Option ℕ → NodeStep → Outcome → Effect
connect_effect command id breadcrumb step outcome = responded_with command 7 (connect_fields (status_of outcome)) (network_steps id breadcrumb step outcome)

-- The networks that are there.

abbrev pub has_id : List ℕ → Network → Bool
has_id id network = bytes_eq network.id id

-- where the network of this id stands
abbrev pub place_among : List Network → List ℕ → Option ℕ
place_among networks id = position (has_id id) networks

abbrev pub found_place : List Network → List ℕ → Outcome
found_place networks id = ok_or (place_among networks id) statuses.NetworkIdNotFound

-- AddOrUpdateWiFiNetwork: 0 SSID, 1 Credentials, 2 Breadcrumb. A network that is there keeps its place, a new one stands last, and
-- there are at most four.

abbrev pub put_place : ℕ → Option ℕ → Outcome
put_place count (Some place) = Ok place
put_place count None = if nat_le NETWORKS count then Err statuses.BoundsExceeded else Ok count

abbrev pub putting : List Network → List ℕ → List ℕ → Outcome
putting networks id secret =
    if has_up_to NETWORK_ID_BYTES id && nat_le (length secret) NETWORK_SECRET_BYTES then put_place (length networks) (place_among networks id)
    else Err statuses.OutOfRange

abbrev pub add_or_update_network : List Network → Place → Value → Effect
add_or_update_network networks command fields =
    let id = octets_of 0 fields in
    let secret = octets_of 1 fields in
    config_effect command id (given_number 2 fields) (PutNetwork id secret) (putting networks id secret)

-- RemoveNetwork: 0 NetworkID, 1 Breadcrumb. It answers the place that the network had.

abbrev pub remove_network : List Network → Place → Value → Effect
remove_network networks command fields =
    let id = octets_of 0 fields in
    config_effect command id (given_number 1 fields) (RemoveNetwork id) (found_place networks id)

-- ConnectNetwork: 0 NetworkID, 1 Breadcrumb. The network must be within reach.

abbrev pub if_reachable : Bool → Outcome → Outcome
if_reachable reachable (Err status) = Err status
if_reachable reachable (Ok place) = if reachable then Ok place else Err statuses.OtherConnectionFailure

abbrev pub connecting : List Network → List (List ℕ) → List ℕ → Outcome
connecting networks reachable id = if_reachable (list_any (bytes_eq id) reachable) (found_place networks id)

abbrev pub connect_network : List Network → List (List ℕ) → Place → Value → Effect
connect_network networks reachable command fields =
    let id = octets_of 0 fields in
    connect_effect command id (given_number 1 fields) (ConnectNetwork id) (connecting networks reachable id)

-- ReorderNetwork: 0 NetworkID, 1 NetworkIndex, 2 Breadcrumb. The index is a place of a network; there are at most four.

abbrev pub if_place : ℕ → ℕ → Outcome → Outcome
if_place count index (Err status) = Err status
if_place count index (Ok place) = if nat_lt index count && nat_lt index NETWORKS then Ok index else Err statuses.OutOfRange

abbrev pub reorder_network : List Network → Place → Value → Effect
reorder_network networks command fields =
    let id = octets_of 0 fields in
    let index = number_of 1 fields in
    config_effect command id (given_number 2 fields) (MoveNetwork id index) (if_place (length networks) index (found_place networks id))

-- the fail-safe must be armed by the fabric of whoever asks
abbrev pub if_owner : Known → Actor → Place → Effect → Effect
if_owner known actor command effect = if is_armed_by actor.fabric known.armed then effect else refused_at command FailsafeRequired

-- what a command of the cluster comes to, where these networks are within reach
abbrev pub network_commissioning_effect : Known → List (List ℕ) → Actor → Place → Value → Effect
network_commissioning_effect known reachable actor command fields =
    if command.leaf == 2 then if_owner known actor command (add_or_update_network known.networks command fields)
    else if command.leaf == 4 then if_owner known actor command (remove_network known.networks command fields)
    else if command.leaf == 6 then if_owner known actor command (connect_network known.networks reachable command fields)
    else if command.leaf == 8 then if_owner known actor command (reorder_network known.networks command fields)
    else refused_at command UnsupportedCommand
