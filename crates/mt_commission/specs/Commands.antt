-- What commands come to: those of General Commissioning and of Network Commissioning. What each cluster makes of its own stands in
-- the file of its name.
use Rattle.std.specs.Prelude.{ℕ, ◌==◌, List, if◌then◌else◌}
use Rattle.mt_tlv.specs.declared.value.Value.{Value}
use Rattle.mt_model.specs.messages.Effects.{refused_at}
use Rattle.mt_model.specs.tables.Known.{Known}
use Rattle.mt_model.specs.declared.messages.status.Status.TheVariants.{UnsupportedCommand}
use Rattle.mt_model.specs.declared.node.action.Effect.{Effect}
use Rattle.mt_model.specs.declared.rows.place.Place.{Place}
use Rattle.mt_model.specs.declared.tables.access.Actor.{Actor}
use Rattle.mt_meta.specs.clusters.GeneralCommissioning as general_commissioning
use Rattle.mt_meta.specs.clusters.NetworkCommissioning as network_commissioning
use Rattle.mt_commission.specs.GeneralCommissioning.{general_commissioning_effect}
use Rattle.mt_commission.specs.NetworkCommissioning.{network_commissioning_effect}

-- What a command of this actor comes to, by what the actor's fabric knows of the networks and of the fail-safe, where networks of
-- these ids are within reach. It says nothing of whether the actor may invoke it.
abbrev pub invoked : Known → List (List ℕ) → Actor → Place → Value → Effect
invoked known reachable actor command fields =
    if command.cluster == general_commissioning.cluster then general_commissioning_effect known actor command fields
    else if command.cluster == network_commissioning.cluster then network_commissioning_effect known reachable actor command fields
    else refused_at command UnsupportedCommand
