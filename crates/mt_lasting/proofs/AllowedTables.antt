-- A fabric, the networks, the roots and the fail-safe may stand in an element.
use Rattle.std.proofs.Common.{◌≡◌, refl, inl, inr, ℕ, suc, ◌<◌, ◌≤◌, ◌==◌, ◌&&◌, ◌||◌, nat_le, nat_lt, ◌^◌, true, List, [], ◌∷◌, length, arith}
use Rattle.std.proofs.lemmas.Bool.{and_parts, cases_Bool, eqb-true, ltb-true}
use Rattle.std.specs.Prelude.{Option, Some, None, option_map}
use Rattle.std.specs.List.{find, list_all}
use Rattle.std.specs.Str.{is_utf8}
use Rattle.mt_tlv.specs.Limits.{AreAllowed, IsAllowed, longest}
use Rattle.mt_tlv.specs.Tree.{uint, text, octets, Elements, none, more}
use Rattle.mt_tlv.specs.View.{tree}
use Rattle.mt_tlv.specs.declared.reading.Kind.TheVariants as kinds
use Rattle.mt_tlv.specs.declared.value.Tag.{Tag}
use Rattle.mt_tlv.specs.declared.value.Tag.TheVariants.{Context}
use Rattle.mt_model.specs.tables.Holding.{have_one_id, is_network}
use Rattle.mt_model.specs.texts.Config.{are_credentials, has_up_to, is_certificate, is_fabric, is_intermediate, is_label, is_operational, none_alike}
use Rattle.mt_model.specs.declared.limits.TheConstants.{CERTIFICATE_BYTES, FABRICS, IPK_BYTES, LABEL_BYTES, LAST_OPERATIONAL_NODE, NETWORK_ID_BYTES, NETWORK_SECRET_BYTES, NETWORKS, ROOT_KEY_BYTES}
use Rattle.mt_model.specs.declared.tables.fabric.Credentials.{Credentials}
use Rattle.mt_model.specs.declared.tables.fabric.Fabric.{Fabric}
use Rattle.mt_model.specs.declared.tables.network.Armed.{Armed}
use Rattle.mt_model.specs.declared.tables.network.Network.{Network}
use Rattle.mt_fabrics.specs.Table.{has_index_up_to}
use Rattle.mt_machine.specs.State.{are_networks, is_among, names_rightly, saves_rightly}
use Rattle.mt_lasting.specs.Values.{array_if, credential_fields, fabric_value, failsafe_value, has_index, network_tree, saved_tree}
use Rattle.mt_lasting.proofs.AllowedTrees.{IsAllowedIf, all_allowed, array_allowed, field, number_allowed, string_allowed}
use Rattle.mt_lasting.proofs.ReadFailsafe.{none_or_among}

-- Credentials.

certificate_allowed : (bytes : List ℕ) → is_certificate bytes ≡ true → length bytes ≤ longest
certificate_allowed bytes is = string_allowed CERTIFICATE_BYTES bytes (omega arith) (and_parts (nat_le 1 (length bytes)) (nat_le (length bytes) CERTIFICATE_BYTES) is).1

exact_allowed : (count : ℕ) (bytes : List ℕ) → count ≤ longest → (length bytes == count) ≡ true → length bytes ≤ longest
exact_allowed count bytes low is = omega (arith, low, eqb-true (length bytes) count is)

-- the tags of credentials, behind which others stand
abbrev credential_tags : List Tag
credential_tags = Context 0 ∷ Context 1 ∷ Context 2 ∷ Context 3 ∷ Context 4 ∷ Context 5 ∷ Context 6 ∷ []

credentials_allowed : (c : Credentials) (behind : Elements) (room : ℕ) → are_credentials c ≡ true → AreAllowed behind kinds.Struct credential_tags room → AreAllowed (credential_fields c behind) kinds.Struct [] room
credentials_allowed c behind room is others =
    let root = is_certificate c.root in
    let key = length c.root_key == ROOT_KEY_BYTES in
    let id = nat_lt c.fabric_id (2 ^ 64) in
    let node = is_operational c.node_id in
    let noc = is_certificate c.noc in
    let icac = is_intermediate c.icac in
    let ipk = length c.ipk == IPK_BYTES in
    let seven = and_parts (root && key && id && node && noc && icac) ipk is in
    let six = and_parts (root && key && id && node && noc) icac seven.0 in
    let five = and_parts (root && key && id && node) noc six.0 in
    let four = and_parts (root && key && id) node five.0 in
    let three = and_parts (root && key) id four.0 in
    let two = and_parts root key three.0 in
    field 0 refl (certificate_allowed c.root two.0)
    (field 1 refl (exact_allowed ROOT_KEY_BYTES c.root_key (omega arith) two.1)
    (field 2 refl (ltb-true c.fabric_id (2 ^ 64) three.1)
    (field 3 refl (number_allowed LAST_OPERATIONAL_NODE c.node_id (omega arith) (and_parts (nat_le 1 c.node_id) (nat_le c.node_id LAST_OPERATIONAL_NODE) four.1).1)
    (field 4 refl (certificate_allowed c.noc five.1)
    (field 5 refl (string_allowed CERTIFICATE_BYTES c.icac (omega arith) six.1)
    (field 6 refl (exact_allowed IPK_BYTES c.ipk (omega arith) seven.1) others))))))

-- Fabrics.

fabric_allowed : (fabric : Fabric) → is_fabric fabric ≡ true → IsAllowed (tree (fabric_value fabric)) 14
fabric_allowed fabric is =
    let outer = and_parts (are_credentials fabric.credentials && is_label fabric.label) (nat_lt fabric.vendor (2 ^ 16)) is in
    let inner = and_parts (are_credentials fabric.credentials) (is_label fabric.label) outer.0 in
    let label = and_parts (nat_le (length fabric.label) LABEL_BYTES) (is_utf8 fabric.label) inner.1 in
    let vendor : fabric.vendor < 2 ^ 64 = omega (arith, ltb-true fabric.vendor (2 ^ 16) outer.1) in
    credentials_allowed fabric.credentials (more (Context 7) (uint fabric.vendor) (more (Context 8) (text fabric.label) none)) 13 inner.0
    (field 7 refl vendor (field 8 refl (string_allowed LABEL_BYTES fabric.label (omega arith) label.0, label.1) tt))

pub found_allowed : (index : ℕ) (fabrics : List Fabric) → list_all is_fabric fabrics ≡ true → IsAllowedIf (option_map fabric_value (find (has_index index) fabrics)) 14
found_allowed index [] all = tt
found_allowed index (fabric ∷ fabrics) all =
    let both = and_parts (is_fabric fabric) (list_all is_fabric fabrics) all in
    elim (cases_Bool (has_index index fabric)) [
      | inl here ↦ rw here (fabric_allowed fabric both.0)
      | inr later ↦ rw later (found_allowed index fabrics both.1)
    ]

-- Networks.

network_allowed : (room : ℕ) (network : Network) → is_network network ≡ true → IsAllowed (network_tree network) (suc room)
network_allowed room network is =
    let both = and_parts (has_up_to NETWORK_ID_BYTES network.id) (nat_le (length network.secret) NETWORK_SECRET_BYTES) is in
    let id = and_parts (nat_le 1 (length network.id)) (nat_le (length network.id) NETWORK_ID_BYTES) both.0 in
    let secret = string_allowed NETWORK_SECRET_BYTES network.secret (omega arith) both.1 in
    field 0 refl (string_allowed NETWORK_ID_BYTES network.id (omega arith) id.1) (field 1 refl secret (field 2 refl tt tt))

pub networks_allowed : (networks : List Network) → list_all is_network networks ≡ true → IsAllowedIf (array_if network_tree networks) 14
networks_allowed networks all = array_allowed network_tree is_network 13 (network_allowed 12) networks all

-- The fail-safe.

saved_allowed : (armed : Armed) (saved : Option Credentials) → saves_rightly (Some (record armed { saved_credentials = saved })) ≡ true → IsAllowed (saved_tree saved) 13
saved_allowed armed None saves = tt
saved_allowed armed (Some saved) saves = credentials_allowed saved none 12 (and_parts (are_networks armed.saved_networks) (are_credentials saved) saves).1 tt

pub failsafe_allowed : (fabrics : List Fabric) (armed : Option Armed) → list_all (has_index_up_to FABRICS) fabrics ≡ true → names_rightly fabrics armed ≡ true → saves_rightly armed ≡ true
    → IsAllowedIf (option_map failsafe_value armed) 14
failsafe_allowed fabrics None indexes names saves = tt
failsafe_allowed fabrics (Some armed) indexes names saves =
    let name = and_parts (nat_le armed.owner FABRICS) (armed.context == 0 || is_among fabrics armed.context) names in
    let owner = number_allowed FABRICS armed.owner (omega arith) name.0 in
    let context = number_allowed FABRICS armed.context (omega arith) (none_or_among FABRICS armed.context fabrics indexes name.1) in
    let both = and_parts (are_networks armed.saved_networks) _ saves in
    let networks = and_parts (nat_le (length armed.saved_networks) NETWORKS) _ both.0 in
    let forms = and_parts (list_all is_network armed.saved_networks) (none_alike have_one_id armed.saved_networks) networks.1 in
    field 0 refl owner
    (field 1 refl context
    (field 2 refl tt
    (field 3 refl tt
    (field 4 refl (saved_allowed armed armed.saved_credentials saves)
    (field 5 refl (all_allowed network_tree is_network 12 (network_allowed 11) armed.saved_networks [] forms.0) tt)))))

-- Roots.

pub roots_allowed : (roots : List (List ℕ)) → list_all is_certificate roots ≡ true → IsAllowedIf (array_if octets roots) 14
roots_allowed roots all = array_allowed octets is_certificate 13 certificate_allowed roots all
