-- Operational Credentials.
use Rattle.std.specs.Prelude.{ℕ, List, [], ◌∷◌, ◌==◌, if◌then◌else◌}
use Rattle.mt_model.specs.declared.limits.TheConstants.{IPK_BYTES, NONCE_BYTES}
use Rattle.mt_model.specs.declared.tables.access.Privilege.TheVariants.{Administer}
use Rattle.mt_meta.specs.declared.meta.Kind.TheVariants as kinds
use Rattle.mt_meta.specs.declared.rows.AttributeRow.{AttributeRow}
use Rattle.mt_meta.specs.declared.rows.CommandRow.{CommandRow}
use Rattle.mt_meta.specs.declared.rows.Field.{Field}
use Rattle.mt_meta.specs.declared.rows.Sensitive.TheVariants.{TwoFields}
use Rattle.mt_meta.specs.declared.rows.Form.TheVariants as forms
use Rattle.mt_meta.specs.Rows.{plain, read_by, scoped, hiding, invoked_by, scoped_command, needed, optional, any_number, any_octets, any_text}

abbrev pub cluster : ℕ
cluster = 0x3e

abbrev pub attributes : List AttributeRow
attributes =
    hiding (TwoFields 1 2) (scoped (read_by Administer (plain 0 kinds.Nocs)))  -- NOCs: the certificates
    ∷ scoped (plain 1 kinds.Fabrics)  -- Fabrics
    ∷ plain 2 kinds.Uint  -- SupportedFabrics
    ∷ plain 3 kinds.Uint  -- CommissionedFabrics
    ∷ plain 4 kinds.Roots  -- TrustedRootCertificates
    ∷ plain 5 kinds.Uint  -- CurrentFabricIndex, the reader's own fabric
    ∷ []

abbrev pub commands : List CommandRow
commands =
    invoked_by Administer 4  -- CSRRequest
    ∷ invoked_by Administer 6  -- AddNOC
    ∷ scoped_command (invoked_by Administer 7)  -- UpdateNOC
    ∷ scoped_command (invoked_by Administer 9)  -- UpdateFabricLabel
    ∷ invoked_by Administer 10  -- RemoveFabric
    ∷ invoked_by Administer 11  -- AddTrustedRootCertificate
    ∷ []

abbrev pub responses : List ℕ
responses =
    5  -- CSRResponse
    ∷ 8  -- NOCResponse
    ∷ []

-- the fields of commands

abbrev pub csr_request_fields : List Field
csr_request_fields =
    needed 0 (forms.Octets NONCE_BYTES NONCE_BYTES)  -- CSRNonce
    ∷ optional 1 forms.Bool  -- IsForUpdateNOC
    ∷ []

abbrev pub add_noc_fields : List Field
add_noc_fields =
    needed 0 any_octets  -- NOCValue
    ∷ optional 1 any_octets  -- ICACValue
    ∷ needed 2 (forms.Octets IPK_BYTES IPK_BYTES)  -- IPKValue
    ∷ needed 3 any_number  -- CaseAdminSubject
    ∷ needed 4 (forms.Uint 0xffff)  -- AdminVendorId
    ∷ []

abbrev pub update_noc_fields : List Field
update_noc_fields =
    needed 0 any_octets  -- NOCValue
    ∷ optional 1 any_octets  -- ICACValue
    ∷ []

abbrev pub command_fields : ℕ → List Field
command_fields command =
    if command == 4 then csr_request_fields
    else if command == 6 then add_noc_fields
    else if command == 7 then update_noc_fields
    else if command == 9 then needed 0 any_text ∷ []  -- UpdateFabricLabel: Label
    else if command == 10 then needed 0 any_number ∷ []  -- RemoveFabric: FabricIndex
    else if command == 11 then needed 0 any_octets ∷ []  -- AddTrustedRootCertificate: RootCACertificate
    else []
