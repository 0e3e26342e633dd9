-- What holds of the steps of each command.
use Rattle.std.specs.Prelude.{◌≡◌, ◌==◌, ◌&&◌, ◌||◌, not, nat_le, bytes_eq, is_none, Bool, true, false, List, length, Option, Some, None}
use Rattle.std.specs.List.{list_all, list_any}
use Rattle.mt_tlv.specs.View.{tree}
use Rattle.mt_tlv.specs.declared.value.Value.{Value}
use Rattle.mt_fabrics.specs.Table.{add_refusal, credentials_at, has_others_label, is_used, least_unused}
use Rattle.mt_failsafe.specs.Calls.{is_armed_by}
use Rattle.mt_failsafe.specs.Notes.{may_note_added, may_note_csr, may_note_root, may_note_updated}
use Rattle.mt_meta.specs.Fields.{has_fields}
use Rattle.mt_meta.specs.clusters.OperationalCredentials.{command_fields}
use Rattle.mt_model.specs.rows.Setting.{is_entry_of}
use Rattle.mt_model.specs.tables.Known.{Known}
use Rattle.mt_model.specs.texts.Config.{are_credentials, is_certificate, is_csr, is_entry, is_fabric, is_join, is_label, is_pase, is_root}
use Rattle.mt_model.specs.declared.limits.TheConstants.{ENTRIES, NONCE_BYTES}
use Rattle.mt_model.specs.declared.node.action.NodeStep.{NodeStep}
use Rattle.mt_model.specs.declared.node.action.NodeStep.TheVariants.{AddFabric, AddRoot, Csr, Label, RemoveFabric, SetEntries, UpdateFabric}
use Rattle.mt_model.specs.declared.rows.place.Place.{Place}
use Rattle.mt_model.specs.declared.tables.access.Actor.{Actor}
use Rattle.mt_model.specs.declared.tables.fabric.Credentials.{Credentials}
use Rattle.mt_model.specs.declared.tables.fabric.Fabric.{Fabric}
use Rattle.mt_model.specs.declared.tables.network.Armed.{Armed}
use Rattle.mt_opcreds.specs.Commands.{invoked}
use Rattle.mt_opcreds.specs.Judged.{Judged}

-- whether what a step puts into the state keeps the rules on fabrics, certificates, labels and access control entries
abbrev pub is_well_formed : NodeStep → Bool
is_well_formed (AddFabric fabric) = is_fabric fabric
is_well_formed (UpdateFabric index credentials) = are_credentials credentials
is_well_formed (SetEntries fabric entries) = list_all is_entry entries && (list_all (is_entry_of fabric) entries && nat_le (length entries) ENTRIES)
is_well_formed (AddRoot cert) = is_certificate cert
is_well_formed (Csr nonce update) = length nonce == NONCE_BYTES
is_well_formed (Label index label) = is_label label
is_well_formed step = true

-- Each row of the verdicts keeps the rules of its kind.
pub record KeepsRules (judged : Judged) : Type 0 where
  pub roots : list_all is_root judged.roots ≡ true
  pub csrs : list_all is_csr judged.csrs ≡ true
  pub joins : list_all is_join judged.joins ≡ true

-- whether the credentials of a fabric that is there keep theirs
abbrev pub are_credentials_if : Option Credentials → Bool
are_credentials_if None = true
are_credentials_if (Some given) = are_credentials given

-- Where the verdicts and the actor's own credentials keep the rules, and the fields have the form of the command.
abbrev pub StepsAreWellFormed : Type 0
StepsAreWellFormed = (judged : Judged) (known : Known) (actor : Actor) (command : Place) (fields : Value)
    → KeepsRules judged
    → are_credentials_if (credentials_at actor.fabric known.fabrics) ≡ true
    → has_fields (command_fields command.leaf) (tree fields) ≡ true
    → list_all is_well_formed (invoked judged known actor command fields).steps ≡ true

-- That the node may take a step as it stands.

-- whether the fail-safe may note what a step does under it
abbrev pub may_be_noted : Option Armed → NodeStep → Bool
may_be_noted armed (Csr nonce update) = may_note_csr update armed
may_be_noted armed (AddRoot cert) = may_note_root armed
may_be_noted armed (AddFabric fabric) = may_note_added armed
may_be_noted armed (UpdateFabric index credentials) = may_note_updated armed && is_armed_by index armed
may_be_noted armed step = true

-- whether credentials have the identity of those that a fabric has
abbrev pub is_identity_of : Credentials → Option Credentials → Bool
is_identity_of given None = false
is_identity_of given (Some own) = bytes_eq own.root_key given.root_key && (own.fabric_id == given.fabric_id)

-- whether the table of fabrics takes a step: a fabric joins under the least index that no other has, with an identity and a label
-- of its own, it keeps its identity, it gets a label that no other has, and one that goes is there
abbrev pub is_taken : List Fabric → NodeStep → Bool
is_taken fabrics (AddFabric fabric) = is_none (add_refusal fabric fabrics) && (fabric.index == least_unused fabrics)
is_taken fabrics (SetEntries fabric entries) = fabric == least_unused fabrics
is_taken fabrics (UpdateFabric index credentials) = is_identity_of credentials (credentials_at index fabrics)
is_taken fabrics (Label index label) = not (list_any (has_others_label index label) fabrics)
is_taken fabrics (RemoveFabric index) = is_used index fabrics
is_taken fabrics step = true

-- whether the node may take a step as it stands
abbrev pub fits : Known → NodeStep → Bool
fits known step = may_be_noted known.armed step && is_taken known.fabrics step

-- Where 0 is no fabric's index, and whoever does not ask over PASE is of a fabric.
abbrev pub StepsFit : Type 0
StepsFit = (judged : Judged) (known : Known) (actor : Actor) (command : Place) (fields : Value)
    → is_used 0 known.fabrics ≡ false
    → (is_pase actor.auth || not (actor.fabric == 0)) ≡ true
    → list_all (fits known) (invoked judged known actor command fields).steps ≡ true
