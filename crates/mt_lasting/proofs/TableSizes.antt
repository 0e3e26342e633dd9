-- How many bytes a fabric, the networks, the roots and the fail-safe take at most.
use Rattle.std.proofs.Common.{◌≡◌, inl, inr, ℕ, ◌+◌, ◌≤◌, ◌==◌, ◌&&◌, nat_le, nat_lt, ◌^◌, true, List, [], ◌∷◌, length, arith}
use Rattle.std.proofs.lemmas.Bool.{and_parts, cases_Bool, eqb-true, le-leb, leb-true, ltb-true}
use Rattle.std.specs.Prelude.{Option, Some, None, option_map}
use Rattle.std.specs.List.{find, list_all}
use Rattle.std.specs.Str.{is_utf8}
use Rattle.mt_tlv.specs.Tree.{uint, text, octets, Elements, none, more}
use Rattle.mt_tlv.specs.View.{tree}
use Rattle.mt_tlv.specs.declared.value.Tag.TheVariants.{Context}
use Rattle.mt_model.specs.tables.Holding.{have_one_id, is_network}
use Rattle.mt_model.specs.texts.Config.{are_credentials, has_up_to, is_certificate, is_fabric, is_intermediate, is_label, is_operational, none_alike}
use Rattle.mt_model.specs.declared.limits.TheConstants.{CERTIFICATE_BYTES, IPK_BYTES, LABEL_BYTES, NETWORK_ID_BYTES, NETWORK_SECRET_BYTES, NETWORKS, ROOT_KEY_BYTES}
use Rattle.mt_model.specs.declared.tables.fabric.Credentials.{Credentials}
use Rattle.mt_model.specs.declared.tables.fabric.Fabric.{Fabric}
use Rattle.mt_model.specs.declared.tables.network.Armed.{Armed}
use Rattle.mt_model.specs.declared.tables.network.Network.{Network}
use Rattle.mt_machine.specs.State.{are_networks, saves_rightly}
use Rattle.mt_lasting.specs.Values.{array_if, credential_fields, fabric_value, failsafe_value, has_index, network_tree, saved_tree}
use Rattle.mt_lasting.proofs.NumberSizes.{all_sizes, array_size, in_eight, in_two, string_within}
use Rattle.mt_lasting.proofs.TreeSizes.{size, sizes, string_size, value_size}

-- Credentials.

pub certificate_size : (bytes : List ℕ) → is_certificate bytes ≡ true → string_size (length bytes) ≤ 402
certificate_size bytes is = string_within CERTIFICATE_BYTES (length bytes) (and_parts (nat_le 1 (length bytes)) (nat_le (length bytes) CERTIFICATE_BYTES) is).1

exact_size : (count : ℕ) (bytes : List ℕ) → (length bytes == count) ≡ true → nat_le (length bytes) count ≡ true
exact_size count bytes is = le-leb (length bytes) count (omega (arith, eqb-true (length bytes) count is))

credentials_size : (c : Credentials) (behind : Elements) → are_credentials c ≡ true → sizes (credential_fields c behind) ≤ 1319 + sizes behind
credentials_size c behind is =
    let root = is_certificate c.root in
    let key = length c.root_key == ROOT_KEY_BYTES in
    let id = nat_lt c.fabric_id (2 ^ 64) in
    let node = is_operational c.node_id in
    let noc = is_certificate c.noc in
    let icac = is_intermediate c.icac in
    let ipk = length c.ipk == IPK_BYTES in
    let seven = and_parts (root && key && id && node && noc && icac) ipk is in
    let six = and_parts (root && key && id && node && noc) icac seven.0 in
    let five = and_parts (root && key && id && node) noc six.0 in
    let four = and_parts (root && key && id) node five.0 in
    let three = and_parts (root && key) id four.0 in
    let two = and_parts root key three.0 in
    omega (
      arith,
      certificate_size c.root two.0,
      string_within ROOT_KEY_BYTES (length c.root_key) (exact_size ROOT_KEY_BYTES c.root_key two.1),
      in_eight c.fabric_id,
      in_eight c.node_id,
      certificate_size c.noc five.1,
      string_within CERTIFICATE_BYTES (length c.icac) six.1,
      string_within IPK_BYTES (length c.ipk) (exact_size IPK_BYTES c.ipk seven.1),
    )

-- Fabrics.

fabric_size : (fabric : Fabric) → is_fabric fabric ≡ true → size (tree (fabric_value fabric)) ≤ 1359
fabric_size fabric is =
    let outer = and_parts (are_credentials fabric.credentials && is_label fabric.label) (nat_lt fabric.vendor (2 ^ 16)) is in
    let inner = and_parts (are_credentials fabric.credentials) (is_label fabric.label) outer.0 in
    let label = and_parts (nat_le (length fabric.label) LABEL_BYTES) (is_utf8 fabric.label) inner.1 in
    omega (
      arith,
      credentials_size fabric.credentials (more (Context 7) (uint fabric.vendor) (more (Context 8) (text fabric.label) none)) inner.0,
      in_two fabric.vendor (ltb-true fabric.vendor (2 ^ 16) outer.1),
      string_within LABEL_BYTES (length fabric.label) label.0,
    )

pub found_size : (index : ℕ) (fabrics : List Fabric) → list_all is_fabric fabrics ≡ true → value_size (option_map fabric_value (find (has_index index) fabrics)) ≤ 1361
found_size index [] all = omega arith
found_size index (fabric ∷ fabrics) all =
    let both = and_parts (is_fabric fabric) (list_all is_fabric fabrics) all in
    elim (cases_Bool (has_index index fabric)) [
      | inl here ↦ rw here (omega (arith, fabric_size fabric both.0))
      | inr later ↦ rw later (found_size index fabrics both.1)
    ]

-- Networks.

network_size : (network : Network) → is_network network ≡ true → size (network_tree network) ≤ 105
network_size network is =
    let both = and_parts (has_up_to NETWORK_ID_BYTES network.id) (nat_le (length network.secret) NETWORK_SECRET_BYTES) is in
    let id = and_parts (nat_le 1 (length network.id)) (nat_le (length network.id) NETWORK_ID_BYTES) both.0 in
    omega (arith, string_within NETWORK_ID_BYTES (length network.id) id.1, string_within NETWORK_SECRET_BYTES (length network.secret) both.1)

pub networks_size : (networks : List Network) → nat_le (length networks) NETWORKS ≡ true → list_all is_network networks ≡ true → value_size (array_if network_tree networks) ≤ 427
networks_size networks few all = array_size network_tree is_network 105 network_size 4 networks (leb-true _ _ few) all

-- The fail-safe.

saved_size : (armed : Armed) (saved : Option Credentials) → saves_rightly (Some (record armed { saved_credentials = saved })) ≡ true → size (saved_tree saved) ≤ 1320
saved_size armed None saves = omega arith
saved_size armed (Some saved) saves = omega (arith, credentials_size saved none (and_parts (are_networks armed.saved_networks) (are_credentials saved) saves).1)

pub failsafe_size : (armed : Option Armed) → saves_rightly armed ≡ true → value_size (option_map failsafe_value armed) ≤ 1776
failsafe_size None saves = omega arith
failsafe_size (Some armed) saves =
    let both = and_parts (are_networks armed.saved_networks) _ saves in
    let networks = and_parts (nat_le (length armed.saved_networks) NETWORKS) _ both.0 in
    let forms = and_parts (list_all is_network armed.saved_networks) (none_alike have_one_id armed.saved_networks) networks.1 in
    omega (
      arith,
      in_eight armed.owner,
      in_eight armed.context,
      saved_size armed armed.saved_credentials saves,
      all_sizes network_tree is_network 105 network_size 4 armed.saved_networks (leb-true _ _ networks.0) forms.0,
    )

-- Roots.

pub roots_size : (roots : List (List ℕ)) → length roots ≤ 17 → list_all is_certificate roots ≡ true → value_size (array_if octets roots) ≤ 6854
roots_size roots few all = array_size octets is_certificate 402 certificate_size 17 roots few all
