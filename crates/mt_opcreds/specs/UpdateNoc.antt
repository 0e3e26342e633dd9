-- UpdateNOC: new credentials of the fabric that asks, under its own root.
use Rattle.std.specs.Prelude.{ℕ, ◌==◌, not, is_some, Bool, List, [], ◌∷◌, bytes_eq, Option, Some, None, Result, Ok, Err, if◌then◌else◌}
use Rattle.mt_tlv.specs.declared.value.Value.{Value}
use Rattle.mt_fabrics.specs.Table.{credentials_at}
use Rattle.mt_model.specs.messages.Effects.{refused_at}
use Rattle.mt_model.specs.tables.Known.{Known}
use Rattle.mt_model.specs.texts.Config.{is_operational}
use Rattle.mt_model.specs.declared.messages.status.Status.{Status}
use Rattle.mt_model.specs.declared.messages.status.Status.TheVariants.{ConstraintError}
use Rattle.mt_model.specs.declared.node.action.Effect.{Effect}
use Rattle.mt_model.specs.declared.node.action.NodeStep.TheVariants.{UpdateFabric}
use Rattle.mt_model.specs.declared.rows.place.Place.{Place}
use Rattle.mt_model.specs.declared.tables.access.Actor.{Actor}
use Rattle.mt_model.specs.declared.tables.fabric.Credentials.{Credentials}
use Rattle.mt_model.specs.declared.tables.network.Armed.{Armed}
use Rattle.mt_model.specs.declared.texts.config.JoinRow.{JoinRow}
use Rattle.mt_opcreds.specs.Fields.{icac_in, noc_in}
use Rattle.mt_opcreds.specs.Judged.{Judged, chain_verdict}
use Rattle.mt_opcreds.specs.Owner.{owned_by}
use Rattle.mt_opcreds.specs.Responses.{noc_done, noc_refused}
use Rattle.mt_opcreds.specs.declared.fault.CertificateFault.{CertificateFault}
use Rattle.mt_opcreds.specs.declared.fault.CertificateFault.TheVariants.{InvalidNoc, InvalidNodeOpId, InvalidPublicKey, MissingCsr}

-- the fabric's credentials with the node id of the verdict and the new certificates
abbrev pub renewed : Value → Credentials → JoinRow → Credentials
renewed fields own chain = record own { node_id = chain.node_id; noc = noc_in fields; icac = icac_in fields }

-- When it is refused, by the verdict, under a signing request of this nonce.
abbrev pub update_refusal : List ℕ → Credentials → JoinRow → Option CertificateFault
update_refusal nonce own chain =
    if not (chain.fabric_id == own.fabric_id) then Some InvalidNoc
    else if not (bytes_eq chain.nonce nonce) then Some InvalidPublicKey
    else if not (is_operational chain.node_id) then Some InvalidNodeOpId
    else None

abbrev pub update_if : ℕ → Place → Credentials → Option CertificateFault → Effect
update_if index command credentials (Some fault) = noc_refused command fault
update_if index command credentials None = noc_done command index (UpdateFabric index credentials ∷ [])

-- What it comes to.

abbrev pub update_judged : ℕ → Place → Value → List ℕ → Credentials → Option JoinRow → Effect
update_judged index command fields nonce own None = noc_refused command InvalidNoc
update_judged index command fields nonce own (Some chain) = update_if index command (renewed fields own chain) (update_refusal nonce own chain)

-- no verdict speaks of a fabric that is not in the table
abbrev pub update_of : Judged → ℕ → Place → Value → List ℕ → Option Credentials → Effect
update_of judged index command fields nonce None = noc_refused command InvalidNoc
update_of judged index command fields nonce (Some own) = update_judged index command fields nonce own (chain_verdict judged own.root (noc_in fields) (icac_in fields))

abbrev pub update_with : Judged → Known → ℕ → Place → Value → Option (List ℕ × Bool) → Effect
update_with judged known index command fields None = noc_refused command MissingCsr
update_with judged known index command fields (Some csr) =
    if not csr.1 then refused_at command ConstraintError  -- not for an update
    else update_of judged index command fields csr.0 (credentials_at index known.fabrics)

abbrev pub update_under : Judged → Known → ℕ → Place → Value → Result Armed Status → Effect
update_under judged known index command fields (Err status) = refused_at command status
update_under judged known index command fields (Ok armed) =
    if is_some armed.root then refused_at command ConstraintError  -- after a root
    else update_with judged known index command fields armed.csr

abbrev pub update_noc_effect : Judged → Known → Actor → Place → Value → Effect
update_noc_effect judged known actor command fields = update_under judged known actor.fabric command fields (owned_by actor.fabric known.armed)
