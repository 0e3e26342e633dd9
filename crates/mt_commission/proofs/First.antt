-- Behind its first step a command sets nothing but values of attributes.
use Rattle.std.proofs.Common.{◌≡◌, ℕ, ◌==◌, nat_lt, Bool, true, false, List, [], ◌∷◌, length, Option, Some, None, Ok, Err, refl, if◌then◌else◌}
use Rattle.mt_tlv.specs.declared.value.Value.{Value}
use Rattle.mt_model.specs.messages.Effects.{refused_at}
use Rattle.mt_model.specs.tables.Known.{Known}
use Rattle.mt_model.specs.declared.messages.status.Status.TheVariants.{FailsafeRequired, UnsupportedCommand}
use Rattle.mt_model.specs.declared.node.action.Effect.{Effect}
use Rattle.mt_model.specs.declared.node.action.NodeStep.{NodeStep}
use Rattle.mt_model.specs.declared.node.action.NodeStep.TheVariants.{Arm, ConnectNetwork, MoveNetwork, PutNetwork, RemoveNetwork}
use Rattle.mt_model.specs.declared.rows.place.Place.{Place}
use Rattle.mt_model.specs.declared.tables.access.Actor.{Actor}
use Rattle.mt_model.specs.declared.tables.network.Armed.{Armed}
use Rattle.mt_failsafe.specs.Calls.{is_armed_by}
use Rattle.mt_meta.specs.clusters.GeneralCommissioning as general
use Rattle.mt_meta.specs.clusters.NetworkCommissioning as network
use Rattle.mt_meta.specs.Given.{given_number, number_of, octets_of}
use Rattle.mt_commission.specs.GeneralCommissioning.{arm_fail_safe, armed_effect, commissioning_complete, completed_effect, completing, error_effect, failsafe_steps, general_commissioning_effect, regulatory_steps, renewing, seconds_of, set_regulatory_config}
use Rattle.mt_commission.specs.Laws.{StepsStandFirst, sets_values_behind}
use Rattle.mt_commission.specs.NetworkCommissioning.{Outcome, add_or_update_network, connect_network, connecting, found_place, if_owner, if_place, network_commissioning_effect, network_steps, putting, remove_network, reorder_network}
use Rattle.mt_commission.specs.declared.codes.CommissioningError.{CommissioningError}
use Rattle.mt_commission.specs.declared.codes.CommissioningError.TheVariants as errors

abbrev First : Effect → Type 0
First effect = sets_values_behind effect.steps ≡ true

-- General Commissioning.

arming_first : (command : Place) (breadcrumb fabric seconds : ℕ) (none : Bool) → First (armed_effect command breadcrumb (Some (if none then [] else Arm fabric seconds ∷ [])))
arming_first command breadcrumb fabric seconds true = refl
arming_first command breadcrumb fabric seconds false = refl

owned_first : (command : Place) (breadcrumb seconds : ℕ) (own : Bool) → First (armed_effect command breadcrumb (if own then Some (renewing seconds ∷ []) else None))
owned_first command breadcrumb seconds true = refl
owned_first command breadcrumb seconds false = refl

arm_first : (command : Place) (breadcrumb fabric seconds : ℕ) (armed : Option Armed) → First (armed_effect command breadcrumb (failsafe_steps fabric seconds armed))
arm_first command breadcrumb fabric seconds None = arming_first command breadcrumb fabric seconds (seconds == 0)
arm_first command breadcrumb fabric seconds (Some armed) = owned_first command breadcrumb seconds (armed.owner == fabric)

regulatory_first : (command : Place) (fields : Value) (above : Bool) → First (if above then error_effect command 3 errors.ValueOutsideRange [] else error_effect command 3 errors.Ok (regulatory_steps fields))
regulatory_first command fields true = refl
regulatory_first command fields false = refl

complete_first : (command : Place) (error : CommissioningError) → First (completed_effect command error)
complete_first command errors.Ok = refl
complete_first command errors.ValueOutsideRange = refl
complete_first command errors.InvalidAuthentication = refl
complete_first command errors.NoFailSafe = refl
complete_first command errors.BusyWithOtherAdmin = refl

general_first : (known : Known) (actor : Actor) (command : Place) (fields : Value) (zero two four : Bool)
    → First (if zero then arm_fail_safe known actor command fields else if two then set_regulatory_config command fields else if four then commissioning_complete known actor command else refused_at command UnsupportedCommand)
general_first known actor command fields true two four = arm_first command (number_of 1 fields) actor.fabric (seconds_of fields) known.armed
general_first known actor command fields false true four = regulatory_first command fields (nat_lt 2 (number_of 0 fields))
general_first known actor command fields false false true = complete_first command (completing actor known.armed)
general_first known actor command fields false false false = refl

-- Network Commissioning.

network_first : (id : List ℕ) (breadcrumb : Option ℕ) (step : NodeStep) (outcome : Outcome) → sets_values_behind (network_steps id breadcrumb step outcome) ≡ true
network_first id None step (Ok place) = refl
network_first id (Some n) step (Ok place) = refl
network_first id breadcrumb step (Err status) = refl

owner_first : (own : Bool) (command : Place) (effect : Effect) → First effect → First (if own then effect else refused_at command FailsafeRequired)
owner_first true command effect first = first
owner_first false command effect first = refl

module _ (known : Known) (reachable : List (List ℕ)) (actor : Actor) (command : Place) (fields : Value) where
  owned : (effect : Effect) → First effect → First (if_owner known actor command effect)
  owned effect first = owner_first (is_armed_by actor.fabric known.armed) command effect first

  networks_first : (two four six eight : Bool)
      → First
      (if two then if_owner known actor command (add_or_update_network known.networks command fields)
      else if four then if_owner known actor command (remove_network known.networks command fields)
      else if six then if_owner known actor command (connect_network known.networks reachable command fields)
      else if eight then if_owner known actor command (reorder_network known.networks command fields)
      else refused_at command UnsupportedCommand)
  networks_first true four six eight =
      owned (add_or_update_network known.networks command fields)
      (network_first (octets_of 0 fields) (given_number 2 fields) (PutNetwork (octets_of 0 fields) (octets_of 1 fields)) (putting known.networks (octets_of 0 fields) (octets_of 1 fields)))
  networks_first false true six eight =
      owned (remove_network known.networks command fields)
      (network_first (octets_of 0 fields) (given_number 1 fields) (RemoveNetwork (octets_of 0 fields)) (found_place known.networks (octets_of 0 fields)))
  networks_first false false true eight =
      owned (connect_network known.networks reachable command fields)
      (network_first (octets_of 0 fields) (given_number 1 fields) (ConnectNetwork (octets_of 0 fields)) (connecting known.networks reachable (octets_of 0 fields)))
  networks_first false false false true =
      owned (reorder_network known.networks command fields)
      (network_first (octets_of 0 fields) (given_number 2 fields) (MoveNetwork (octets_of 0 fields) (number_of 1 fields)) (if_place (length known.networks) (number_of 1 fields) (found_place known.networks (octets_of 0 fields))))
  networks_first false false false false = refl

  clusters_first : (is_general is_network : Bool)
      → First (if is_general then general_commissioning_effect known actor command fields else if is_network then network_commissioning_effect known reachable actor command fields else refused_at command UnsupportedCommand)
  clusters_first true is_network = general_first known actor command fields (command.leaf == 0) (command.leaf == 2) (command.leaf == 4)
  clusters_first false true = networks_first (command.leaf == 2) (command.leaf == 4) (command.leaf == 6) (command.leaf == 8)
  clusters_first false false = refl

pub steps_first : StepsStandFirst
steps_first known reachable actor command fields = clusters_first known reachable actor command fields (command.cluster == general.cluster) (command.cluster == network.cluster)
