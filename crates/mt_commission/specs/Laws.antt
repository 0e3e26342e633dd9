-- What holds of the steps of every command whose fields have the form of the table.
use Rattle.std.specs.Prelude.{◌≡◌, ℕ, ◌==◌, ◌&&◌, ◌||◌, not, nat_le, nat_lt, is_none, is_some, Bool, true, false, IsTrue, List, [], ◌∷◌, length, Option, Result, Ok, Err}
use Rattle.std.specs.List.{list_all}
use Rattle.mt_tlv.specs.View.{tree}
use Rattle.mt_tlv.specs.declared.value.Value.{Value}
use Rattle.mt_meta.specs.Fields.{has_fields}
use Rattle.mt_meta.specs.Finding.{find_data_of}
use Rattle.mt_meta.specs.Forms.{has_form}
use Rattle.mt_meta.specs.Stored.{is_stored}
use Rattle.mt_meta.specs.Table.{command_fields}
use Rattle.mt_meta.specs.declared.meta.Meta.{Meta}
use Rattle.mt_model.specs.tables.Known.{Known}
use Rattle.mt_model.specs.texts.Config.{has_up_to}
use Rattle.mt_model.specs.declared.limits.TheConstants.{NETWORK_ID_BYTES, NETWORK_SECRET_BYTES, NETWORKS}
use Rattle.mt_model.specs.declared.messages.status.Status.{Status}
use Rattle.mt_model.specs.declared.node.action.NodeStep.{NodeStep}
use Rattle.mt_model.specs.declared.node.action.NodeStep.TheVariants.{SetRow, PutNetwork, RemoveNetwork, ConnectNetwork, MoveNetwork, Arm, Renew, Expire, Complete}
use Rattle.mt_model.specs.declared.rows.place.Place.{Place}
use Rattle.mt_model.specs.declared.tables.access.Actor.{Actor}
use Rattle.mt_model.specs.declared.tables.network.Armed.{Armed}
use Rattle.mt_model.specs.declared.tables.network.Network.{Network}
use Rattle.mt_failsafe.specs.Calls.{is_armed_by, is_context}
use Rattle.mt_commission.specs.Commands.{invoked}
use Rattle.mt_commission.specs.NetworkCommissioning.{place_among}

-- one value of the attribute's form, which is nobody's, at a stored place that is not scoped
abbrev pub is_sound_row : Bool → ℕ → List Value → Result Meta Status → Bool
is_sound_row stored fabric values (Err status) = false
is_sound_row stored fabric values (Ok meta) = stored && (not meta.scoped && (fabric == 0 && (length values == 1 && list_all (has_form meta fabric) values)))

-- whether a network of this id is among these
abbrev pub is_there : List Network → List ℕ → Bool
is_there networks id = is_some (place_among networks id)

-- Whether a step may be made for an actor of this fabric, where the networks and the fail-safe are these: a network has the form of
-- one, and there are at most four; the fail-safe is armed once, only who has armed it renews it and lets it expire, and only the fabric
-- for which commissioning goes on completes it.
abbrev pub is_sound_step : List Network → Option Armed → ℕ → NodeStep → Bool
is_sound_step networks armed actor (SetRow place fabric values) = is_sound_row (is_stored place) fabric values (find_data_of place)
is_sound_step networks armed actor (PutNetwork id secret) = has_up_to NETWORK_ID_BYTES id && (nat_le (length secret) NETWORK_SECRET_BYTES && (is_there networks id || nat_lt (length networks) NETWORKS))
is_sound_step networks armed actor (RemoveNetwork id) = is_there networks id
is_sound_step networks armed actor (ConnectNetwork id) = is_there networks id
is_sound_step networks armed actor (MoveNetwork id index) = is_there networks id && nat_lt index (length networks)
is_sound_step networks armed actor (Arm owner seconds) = owner == actor && is_none armed
is_sound_step networks armed actor (Renew seconds) = is_armed_by actor armed
is_sound_step networks armed actor Expire = is_armed_by actor armed
is_sound_step networks armed actor Complete = is_context actor armed
is_sound_step networks armed actor step = false

abbrev pub StepsAreSound : Type 0
StepsAreSound = (known : Known) (reachable : List (List ℕ)) (actor : Actor) (command : Place) (fields : Value) → has_fields (command_fields command.cluster command.leaf) (tree fields) ≡ true
    → IsTrue (list_all (is_sound_step known.networks known.armed actor.fabric) (invoked known reachable actor command fields).steps)

-- Behind its first step a command sets nothing but values of attributes.

abbrev pub sets_value : NodeStep → Bool
sets_value (SetRow place fabric values) = true
sets_value step = false

abbrev pub sets_values_behind : List NodeStep → Bool
sets_values_behind [] = true
sets_values_behind (step ∷ steps) = list_all sets_value steps

abbrev pub StepsStandFirst : Type 0
StepsStandFirst = (known : Known) (reachable : List (List ℕ)) (actor : Actor) (command : Place) (fields : Value) → sets_values_behind (invoked known reachable actor command fields).steps ≡ true
