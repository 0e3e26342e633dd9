-- CSRRequest: a signing request of the node, for a new fabric or for new credentials of the one that asks.
use Rattle.std.specs.Prelude.{ℕ, ◌&&◌, Bool, List, [], ◌∷◌, Option, Some, None, Result, Ok, Err, if◌then◌else◌}
use Rattle.mt_tlv.specs.declared.value.Value.{Value}
use Rattle.mt_model.specs.messages.Effects.{refused_at}
use Rattle.mt_model.specs.tables.Known.{Known}
use Rattle.mt_model.specs.texts.Config.{is_pase}
use Rattle.mt_model.specs.declared.messages.status.Status.{Status}
use Rattle.mt_model.specs.declared.messages.status.Status.TheVariants.{Failure, InvalidCommand}
use Rattle.mt_model.specs.declared.node.action.Effect.{Effect}
use Rattle.mt_model.specs.declared.node.action.NodeStep.TheVariants.{Csr}
use Rattle.mt_model.specs.declared.rows.place.Place.{Place}
use Rattle.mt_model.specs.declared.tables.access.Actor.{Actor}
use Rattle.mt_model.specs.declared.tables.network.Armed.{Armed}
use Rattle.mt_model.specs.declared.texts.config.CsrRow.{CsrRow}
use Rattle.mt_meta.specs.Given.{flag_of, octets_of}
use Rattle.mt_opcreds.specs.Judged.{Judged, csr_verdict}
use Rattle.mt_opcreds.specs.Owner.{owned_by}
use Rattle.mt_opcreds.specs.Responses.{csr_done}

abbrev pub nonce_in : Value → List ℕ
nonce_in fields = octets_of 0 fields

abbrev pub is_update_in : Value → Bool
is_update_in fields = flag_of 1 fields

-- of what no verdict speaks fails
abbrev pub csr_answered : Place → Value → Option CsrRow → Effect
csr_answered command fields None = refused_at command Failure
csr_answered command fields (Some row) = csr_done command row.elements row.signature (Csr (nonce_in fields) (is_update_in fields) ∷ [])

abbrev pub csr_under : Judged → Actor → Place → Value → Result Armed Status → Effect
csr_under judged actor command fields (Err status) = refused_at command status
csr_under judged actor command fields (Ok armed) =
    if is_update_in fields && is_pase actor.auth then refused_at command InvalidCommand
    else csr_answered command fields (csr_verdict judged (nonce_in fields))

abbrev pub csr_request_effect : Judged → Known → Actor → Place → Value → Effect
csr_request_effect judged known actor command fields = csr_under judged actor command fields (owned_by actor.fabric known.armed)
