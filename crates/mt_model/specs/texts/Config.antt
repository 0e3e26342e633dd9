-- The rules on configurations.
use Rattle.std.specs.Prelude.{ℕ, ◌+◌, ◌/◌, ◌%◌, ◌^◌, ◌==◌, nat_le, nat_lt, Bool, true, false, not, ◌&&◌, ◌||◌, Option, Some, None, is_some, List, [], ◌∷◌, length, count_by, bytes_eq}
use Rattle.std.specs.List.{list_all, list_any}
use Rattle.std.specs.Str.{is_utf8}
use Rattle.mt_model.specs.declared.tables.access.AclEntry.{AclEntry}
use Rattle.mt_model.specs.declared.tables.access.Auth.{Auth}
use Rattle.mt_model.specs.declared.tables.access.Auth.TheVariants.{Pase, Case, Group}
use Rattle.mt_model.specs.declared.tables.access.Privilege.{Privilege}
use Rattle.mt_model.specs.declared.tables.access.Privilege.TheVariants.{Administer}
use Rattle.mt_model.specs.declared.tables.access.Target.{Target}
use Rattle.mt_model.specs.declared.texts.config.CsrRow.{CsrRow}
use Rattle.mt_model.specs.declared.texts.config.JoinRow.{JoinRow}
use Rattle.mt_model.specs.declared.texts.config.RootRow.{RootRow}
use Rattle.mt_model.specs.declared.texts.config.SessionRow.{SessionRow}
use Rattle.mt_model.specs.declared.tables.fabric.Credentials.{Credentials}
use Rattle.mt_model.specs.declared.tables.fabric.Fabric.{Fabric}
use Rattle.mt_model.specs.declared.limits.TheConstants.{FABRICS, ENTRIES, SUBJECTS, TARGETS, CASE_SESSIONS, PASE_SESSIONS, CERTIFICATE_BYTES, ROOT_KEY_BYTES, IPK_BYTES, LABEL_BYTES, NETWORKS, LAST_OPERATIONAL_NODE, SESSIONS, VERDICTS, NONCE_BYTES, ELEMENTS_BYTES, SIGNATURE_BYTES, NETWORK_ID_BYTES, LAST_GROUP}

-- whether no two of the items are alike
abbrev pub none_alike : {X : Type 0} → (X → X → Bool) → List X → Bool
none_alike alike [] = true
none_alike alike (x ∷ xs) = not (list_any (alike x) xs) && none_alike alike xs

-- whether there are bytes, and at most so many
abbrev pub has_up_to : ℕ → List ℕ → Bool
has_up_to most bytes = nat_le 1 (length bytes) && nat_le (length bytes) most

abbrev pub is_certificate : List ℕ → Bool
is_certificate bytes = has_up_to CERTIFICATE_BYTES bytes

-- there need be no intermediate certificate
abbrev pub is_intermediate : List ℕ → Bool
is_intermediate bytes = nat_le (length bytes) CERTIFICATE_BYTES

-- Fabrics.

abbrev pub is_operational : ℕ → Bool
is_operational node = nat_le 1 node && nat_le node LAST_OPERATIONAL_NODE

abbrev pub are_credentials : Credentials → Bool
are_credentials given = is_certificate given.root
    && (length given.root_key == ROOT_KEY_BYTES)
    && nat_lt given.fabric_id (2 ^ 64)
    && is_operational given.node_id
    && is_certificate given.noc
    && is_intermediate given.icac
    && (length given.ipk == IPK_BYTES)

-- a text of at most 32 bytes
abbrev pub is_label : List ℕ → Bool
is_label bytes = nat_le (length bytes) LABEL_BYTES && is_utf8 bytes

abbrev pub is_fabric : Fabric → Bool
is_fabric fabric = are_credentials fabric.credentials && is_label fabric.label && nat_lt fabric.vendor (2 ^ 16)

-- whether the indexes are this one, the next and so on
abbrev pub are_numbered_from : ℕ → List Fabric → Bool
are_numbered_from index [] = true
are_numbered_from index (fabric ∷ fabrics) = (fabric.index == index) && are_numbered_from (index + 1) fabrics

-- the identity of a fabric: the public key of its root, and its id
abbrev pub has_identity : List ℕ → ℕ → Fabric → Bool
has_identity root_key fabric_id fabric = bytes_eq fabric.credentials.root_key root_key && (fabric.credentials.fabric_id == fabric_id)

abbrev pub have_one_identity : Fabric → Fabric → Bool
have_one_identity a b = bytes_eq a.credentials.root_key b.credentials.root_key && (a.credentials.fabric_id == b.credentials.fabric_id)

-- fabrics without a label share none
abbrev pub have_one_label : Fabric → Fabric → Bool
have_one_label a b = nat_le 1 (length a.label) && bytes_eq a.label b.label

unfoldable pub are_fabrics : List Fabric → Bool
are_fabrics fabrics = nat_le (length fabrics) FABRICS
    && are_numbered_from 1 fabrics
    && list_all is_fabric fabrics
    && none_alike have_one_identity fabrics
    && none_alike have_one_label fabrics

-- Access control entries.

-- a CASE authenticated tag as a subject: an identifier, and a version that is not 0
abbrev pub is_cat : ℕ → Bool
is_cat subject = (subject / 2 ^ 32 == 0xfffffffd) && not (subject % 2 ^ 16 == 0)

abbrev pub may_be_subject : Auth → ℕ → Bool
may_be_subject Pase subject = false
may_be_subject Case subject = is_operational subject || is_cat subject
may_be_subject Group subject = nat_le 1 subject && nat_le subject LAST_GROUP

-- no entry is for PASE, and none lets a group administer
abbrev pub may_be_granted : Auth → Privilege → Bool
may_be_granted Pase privilege = false
may_be_granted Case privilege = true
may_be_granted Group Administer = false
may_be_granted Group privilege = true

-- a number of so many bits, where there is one
abbrev pub has_bits : ℕ → Option ℕ → Bool
has_bits bits None = true
has_bits bits (Some number) = nat_lt number (2 ^ bits)

abbrev pub has_widths : Target → Bool
has_widths target = has_bits 32 target.cluster && has_bits 16 target.endpoint && has_bits 32 target.device

-- whether the target says something, and not both an endpoint and a device type
abbrev pub is_target : Target → Bool
is_target target = (is_some target.cluster || is_some target.endpoint || is_some target.device)
    && not (is_some target.endpoint && is_some target.device)
    && has_widths target

abbrev pub is_entry : AclEntry → Bool
is_entry entry = may_be_granted entry.auth entry.privilege
    && list_all (may_be_subject entry.auth) entry.subjects
    && list_all is_target entry.targets
    && nat_le (length entry.subjects) SUBJECTS
    && nat_le (length entry.targets) TARGETS

-- whether the entries ascend by fabric, from this one on
abbrev pub ascend_from : ℕ → List AclEntry → Bool
ascend_from fabric [] = true
ascend_from fabric (entry ∷ entries) = nat_le fabric entry.fabric && ascend_from entry.fabric entries

abbrev pub is_of : Fabric → AclEntry → Bool
is_of fabric entry = entry.fabric == fabric.index

unfoldable pub are_entries : List Fabric → List AclEntry → Bool
are_entries fabrics entries = list_all is_entry entries
    && list_all (λ entry. list_any (λ fabric. is_of fabric entry) fabrics) entries
    && list_all (λ fabric. nat_le (count_by (is_of fabric) entries) ENTRIES) fabrics
    && ascend_from 0 entries

-- Sessions.

-- a session of CASE has a fabric, one of PASE has none and names no nodes
abbrev pub is_established : SessionRow → Auth → Bool
is_established row Pase = (length row.root_key == 0) && (row.fabric_id == 0) && (row.own_node == 0) && (row.peer_node == 0)
is_established row Case = length row.root_key == ROOT_KEY_BYTES
is_established row Group = false

-- 0, which stands for none, or a CAT whose version is not 0
abbrev pub is_cat_or_none : ℕ → Bool
is_cat_or_none cat = (cat == 0) || not (cat % 2 ^ 16 == 0)

abbrev pub is_session : SessionRow → Bool
is_session row = nat_le 1 row.session
    && nat_le 1 row.peer_session
    && nat_le 1 row.boot
    && is_established row row.auth
    && list_all is_cat_or_none row.cats

abbrev pub have_one_session : SessionRow → SessionRow → Bool
have_one_session a b = (a.boot == b.boot) && (a.session == b.session)

abbrev pub is_case : Auth → Bool
is_case Case = true
is_case auth = false

abbrev pub is_pase : Auth → Bool
is_pase Pase = true
is_pase auth = false

-- whether both are sessions of CASE of one fabric in one boot
abbrev pub have_one_fabric : SessionRow → SessionRow → Bool
have_one_fabric a b = is_case a.auth && is_case b.auth
    && (a.boot == b.boot)
    && bytes_eq a.root_key b.root_key
    && (a.fabric_id == b.fabric_id)

-- whether both are sessions of PASE in one boot
abbrev pub are_both_pase : SessionRow → SessionRow → Bool
are_both_pase a b = is_pase a.auth && is_pase b.auth && (a.boot == b.boot)

unfoldable pub are_sessions : List SessionRow → Bool
are_sessions rows = nat_le (length rows) SESSIONS
    && list_all is_session rows
    && none_alike have_one_session rows
    && list_all (λ row. nat_le (count_by (have_one_fabric row) rows) CASE_SESSIONS) rows
    && list_all (λ row. nat_le (count_by (are_both_pase row) rows) PASE_SESSIONS) rows

-- Verdicts.

abbrev pub is_root : RootRow → Bool
is_root row = is_certificate row.cert && (length row.key == ROOT_KEY_BYTES)

unfoldable pub are_roots : List RootRow → Bool
are_roots rows = nat_le (length rows) VERDICTS && list_all is_root rows

abbrev pub is_csr : CsrRow → Bool
is_csr row = (length row.nonce == NONCE_BYTES)
    && has_up_to ELEMENTS_BYTES row.elements
    && (length row.signature == SIGNATURE_BYTES)

unfoldable pub are_csrs : List CsrRow → Bool
are_csrs rows = nat_le (length rows) VERDICTS && list_all is_csr rows

abbrev pub is_join : JoinRow → Bool
is_join row = is_certificate row.root
    && is_certificate row.noc
    && is_intermediate row.icac
    && (length row.nonce == NONCE_BYTES)
    && nat_lt row.fabric_id (2 ^ 64)

unfoldable pub are_joins : List JoinRow → Bool
are_joins rows = nat_le (length rows) VERDICTS && list_all is_join rows

-- Networks.

unfoldable pub are_network_ids : List (List ℕ) → Bool
are_network_ids ids = nat_le (length ids) NETWORKS && list_all (has_up_to NETWORK_ID_BYTES) ids
