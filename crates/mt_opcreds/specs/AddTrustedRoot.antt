-- AddTrustedRootCertificate: the root of the commissioning that goes on.
use Rattle.std.specs.Prelude.{ℕ, is_some, List, [], ◌∷◌, Option, Some, None, Result, Ok, Err, if◌then◌else◌}
use Rattle.mt_tlv.specs.declared.value.Value.{Value}
use Rattle.mt_model.specs.messages.Effects.{answered_with, refused_at}
use Rattle.mt_model.specs.tables.Known.{Known}
use Rattle.mt_model.specs.declared.messages.status.Status.{Status}
use Rattle.mt_model.specs.declared.messages.status.Status.TheVariants.{ConstraintError, InvalidCommand, Success}
use Rattle.mt_model.specs.declared.node.action.Effect.{Effect}
use Rattle.mt_model.specs.declared.node.action.NodeStep.TheVariants.{AddRoot}
use Rattle.mt_model.specs.declared.rows.place.Place.{Place}
use Rattle.mt_model.specs.declared.tables.access.Actor.{Actor}
use Rattle.mt_model.specs.declared.tables.network.Armed.{Armed}
use Rattle.mt_model.specs.declared.texts.config.RootRow.{RootRow}
use Rattle.mt_meta.specs.Given.{octets_of}
use Rattle.mt_opcreds.specs.Judged.{Judged, root_verdict}
use Rattle.mt_opcreds.specs.Owner.{owned_by}

abbrev pub cert_in : Value → List ℕ
cert_in fields = octets_of 0 fields

-- of what no verdict speaks is no root certificate
abbrev pub root_answered : Place → List ℕ → Option RootRow → Effect
root_answered command cert None = refused_at command InvalidCommand
root_answered command cert (Some row) = answered_with command Success (AddRoot cert ∷ [])

abbrev pub root_under : Judged → Place → Value → Result Armed Status → Effect
root_under judged command fields (Err status) = refused_at command status
root_under judged command fields (Ok armed) =
    if is_some armed.root then refused_at command ConstraintError  -- after a root
    else root_answered command (cert_in fields) (root_verdict judged (cert_in fields))

abbrev pub add_root_effect : Judged → Known → Actor → Place → Value → Effect
add_root_effect judged known actor command fields = root_under judged command fields (owned_by actor.fabric known.armed)
