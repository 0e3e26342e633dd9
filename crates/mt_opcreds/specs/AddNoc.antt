-- AddNOC: a new fabric, with its first access control entry.
use Rattle.std.specs.Prelude.{ℕ, nat_le, not, Bool, List, [], ◌∷◌, length, bytes_eq, Option, Some, None, Result, Ok, Err, if◌then◌else◌}
use Rattle.std.specs.List.{list_any}
use Rattle.mt_tlv.specs.declared.value.Value.{Value}
use Rattle.mt_fabrics.specs.Table.{least_unused}
use Rattle.mt_failsafe.specs.Notes.{is_for_update}
use Rattle.mt_model.specs.messages.Effects.{refused_at}
use Rattle.mt_model.specs.tables.Known.{Known}
use Rattle.mt_model.specs.texts.Config.{has_identity, is_operational, may_be_subject}
use Rattle.mt_model.specs.declared.limits.TheConstants.{FABRICS}
use Rattle.mt_model.specs.declared.messages.status.Status.{Status}
use Rattle.mt_model.specs.declared.messages.status.Status.TheVariants.{ConstraintError}
use Rattle.mt_model.specs.declared.node.action.Effect.{Effect}
use Rattle.mt_model.specs.declared.node.action.NodeStep.{NodeStep}
use Rattle.mt_model.specs.declared.node.action.NodeStep.TheVariants.{AddFabric, SetEntries}
use Rattle.mt_model.specs.declared.rows.place.Place.{Place}
use Rattle.mt_model.specs.declared.tables.access.AclEntry.{AclEntry}
use Rattle.mt_model.specs.declared.tables.access.Actor.{Actor}
use Rattle.mt_model.specs.declared.tables.access.Auth.TheVariants.{Case}
use Rattle.mt_model.specs.declared.tables.access.Privilege.TheVariants.{Administer}
use Rattle.mt_model.specs.declared.tables.fabric.Credentials.{Credentials}
use Rattle.mt_model.specs.declared.tables.fabric.Fabric.{Fabric}
use Rattle.mt_model.specs.declared.tables.network.Armed.{Armed}
use Rattle.mt_model.specs.declared.texts.config.JoinRow.{JoinRow}
use Rattle.mt_model.specs.declared.texts.config.RootRow.{RootRow}
use Rattle.mt_meta.specs.Given.{number_of, octets_of}
use Rattle.mt_opcreds.specs.Fields.{icac_in, noc_in, short_of}
use Rattle.mt_opcreds.specs.Judged.{Judged, chain_verdict, root_verdict}
use Rattle.mt_opcreds.specs.Owner.{owned_by}
use Rattle.mt_opcreds.specs.Responses.{noc_done, noc_refused}
use Rattle.mt_opcreds.specs.declared.fault.CertificateFault.{CertificateFault}
use Rattle.mt_opcreds.specs.declared.fault.CertificateFault.TheVariants.{FabricConflict, InvalidAdminSubject, InvalidNoc, InvalidNodeOpId, InvalidPublicKey, MissingCsr, TableFull}

abbrev pub ipk_in : Value → List ℕ
ipk_in fields = octets_of 2 fields

-- whom the fabric's first entry names
abbrev pub subject_in : Value → ℕ
subject_in fields = number_of 3 fields

abbrev pub vendor_in : Value → ℕ
vendor_in fields = short_of (number_of 4 fields)

-- What is added.

-- the credentials under this root certificate, by the verdicts on it and on the chain
abbrev pub new_credentials : Value → List ℕ → RootRow → JoinRow → Credentials
new_credentials fields root judged_root chain = record {
  root = root;
  root_key = judged_root.key;
  fabric_id = chain.fabric_id;
  node_id = chain.node_id;
  noc = noc_in fields;
  icac = icac_in fields;
  ipk = ipk_in fields;
}

abbrev pub new_fabric : ℕ → Value → Credentials → Fabric
new_fabric index fields credentials = record { index = index; credentials = credentials; vendor = vendor_in fields; label = [] }

-- the subject administers all of the node over CASE
abbrev pub first_entry : ℕ → ℕ → AclEntry
first_entry index subject = record { privilege = Administer; auth = Case; subjects = subject ∷ []; targets = []; fabric = index }

abbrev pub added_steps : ℕ → Value → Credentials → List NodeStep
added_steps index fields credentials = AddFabric (new_fabric index fields credentials) ∷ SetEntries index (first_entry index (subject_in fields) ∷ []) ∷ []

-- When it is refused.

-- by the verdicts, under a signing request of this nonce; the identity is the root's key with the fabric id
abbrev pub add_refusal : List Fabric → Value → List ℕ → RootRow → JoinRow → Option CertificateFault
add_refusal fabrics fields nonce judged_root chain =
    if not (bytes_eq chain.nonce nonce) then Some InvalidPublicKey
    else if not (is_operational chain.node_id) then Some InvalidNodeOpId
    else if not (may_be_subject Case (subject_in fields)) then Some InvalidAdminSubject
    else if list_any (has_identity judged_root.key chain.fabric_id) fabrics then Some FabricConflict
    else if nat_le FABRICS (length fabrics) then Some TableFull
    else None

abbrev pub add_if : ℕ → Place → Value → Credentials → Option CertificateFault → Effect
add_if index command fields credentials (Some fault) = noc_refused command fault
add_if index command fields credentials None = noc_done command index (added_steps index fields credentials)

-- What it comes to.

-- under a root certificate and a signing request of this context, by the verdicts on the root and on the chain, of which none may
-- be missing
abbrev pub add_judged : List Fabric → Place → Value → List ℕ → List ℕ → Option RootRow → Option JoinRow → Effect
add_judged fabrics command fields nonce root (Some judged_root) (Some chain) = add_if (least_unused fabrics) command fields (new_credentials fields root judged_root chain) (add_refusal fabrics fields nonce judged_root chain)
add_judged fabrics command fields nonce root judged_root chain = noc_refused command InvalidNoc

abbrev pub add_with : Judged → List Fabric → Place → Value → Option (List ℕ × Bool) → Option (List ℕ) → Effect
add_with judged fabrics command fields None root = noc_refused command MissingCsr
add_with judged fabrics command fields (Some csr) None = noc_refused command InvalidNoc
add_with judged fabrics command fields (Some csr) (Some root) = add_judged fabrics command fields csr.0 root (root_verdict judged root) (chain_verdict judged root (noc_in fields) (icac_in fields))

abbrev pub add_under : Judged → List Fabric → Place → Value → Result Armed Status → Effect
add_under judged fabrics command fields (Err status) = refused_at command status
add_under judged fabrics command fields (Ok armed) =
    if is_for_update armed.csr then refused_at command ConstraintError  -- UpdateNOC is due
    else add_with judged fabrics command fields armed.csr armed.root

abbrev pub add_noc_effect : Judged → Known → Actor → Place → Value → Effect
add_noc_effect judged known actor command fields = add_under judged known.fabrics command fields (owned_by actor.fabric known.armed)
