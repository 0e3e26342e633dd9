-- What the commands of the cluster come to (Matter Core Specification, chapter 11, Operational Credentials Cluster). What each
-- makes of its own stands in the file of its name.
use Rattle.std.specs.Prelude.{◌==◌, if◌then◌else◌}
use Rattle.mt_tlv.specs.declared.value.Value.{Value}
use Rattle.mt_model.specs.messages.Effects.{refused_at}
use Rattle.mt_model.specs.tables.Known.{Known}
use Rattle.mt_model.specs.declared.messages.status.Status.TheVariants.{UnsupportedCommand}
use Rattle.mt_model.specs.declared.node.action.Effect.{Effect}
use Rattle.mt_model.specs.declared.rows.place.Place.{Place}
use Rattle.mt_model.specs.declared.tables.access.Actor.{Actor}
use Rattle.mt_opcreds.specs.AddNoc.{add_noc_effect}
use Rattle.mt_opcreds.specs.AddTrustedRoot.{add_root_effect}
use Rattle.mt_opcreds.specs.CsrRequest.{csr_request_effect}
use Rattle.mt_opcreds.specs.Judged.{Judged}
use Rattle.mt_opcreds.specs.RemoveFabric.{remove_effect}
use Rattle.mt_opcreds.specs.UpdateFabricLabel.{update_label_effect}
use Rattle.mt_opcreds.specs.UpdateNoc.{update_noc_effect}

-- What a command of this actor comes to, by what was judged and by what the actor's fabric knows of the node. It says nothing of
-- whether the actor may invoke it.
abbrev pub invoked : Judged → Known → Actor → Place → Value → Effect
invoked judged known actor command fields =
    if command.leaf == 4 then csr_request_effect judged known actor command fields
    else if command.leaf == 6 then add_noc_effect judged known actor command fields
    else if command.leaf == 7 then update_noc_effect judged known actor command fields
    else if command.leaf == 9 then update_label_effect known actor.fabric command fields
    else if command.leaf == 10 then remove_effect known command fields
    else if command.leaf == 11 then add_root_effect judged known actor command fields
    else refused_at command UnsupportedCommand
