-- What a fabric sees of a state is what it sees of the veil.
use Rattle.std.proofs.Common.{◌≡◌, ℕ, inl, inr, Bool, true, false, ◌==◌, nat_lt, List, [], ◌∷◌, ◌++◌, Option, Some, None, cond, refl, ap, sym, subst, ◌∙◌, filter, map, if◌then◌else◌, arith}
use Rattle.std.specs.List.{list_any}
use Rattle.std.proofs.lemmas.List.{map-append}
use Rattle.mt_fabrics.specs.Table.{has_index}
use Rattle.mt_tlv.specs.Tree.{Elements}
use Rattle.mt_model.specs.Optional.{is_that}
use Rattle.mt_model.specs.rows.Order.{fabrics_ascend, in_order}
use Rattle.mt_model.specs.rows.Sight.{is_acl, is_nocs, seen_by, stands_at, version_in}
use Rattle.mt_model.specs.declared.tables.network.Network.{Network}
use Rattle.mt_model.specs.declared.rows.place.Place.{Place}
use Rattle.mt_model.specs.declared.rows.place.Row.{Row}
use Rattle.mt_apps.specs.AccessControl.{entry_row}
use Rattle.mt_apps.specs.Computed.{computed_rows, computed_value, value_rows}
use Rattle.mt_apps.specs.NetworkCommissioning.{network_tree}
use Rattle.mt_apps.specs.OperationalCredentials.{fabric_row, is_fabrics, noc_row}
use Rattle.mt_apps.specs.Parts.{Parts}
use Rattle.mt_meta.specs.Stored.{is_stored}
use Rattle.mt_model.specs.Trees.{untagged}
use Rattle.mt_model.specs.declared.node.state.NodeState.{NodeState}
use Rattle.mt_machine.specs.Isolation.{saved_for, veil, with_saved}
use Rattle.mt_model.specs.tables.Known.{bare_armed, bare_credentials, bare_network, fabric_known_to}
use Rattle.mt_model.specs.declared.tables.fabric.Credentials.{Credentials}
use Rattle.mt_model.specs.declared.tables.fabric.Fabric.{Fabric}
use Rattle.mt_model.specs.declared.tables.network.Armed.{Armed}
use Rattle.std.specs.Option.{option_map}
use Rattle.std.proofs.lemmas.Bool.{cases_Bool}
use Rattle.mt_machine.specs.Observation.{observation}
use Rattle.mt_machine.specs.State.{IsValid, parts, rows_of}
use Rattle.mt_machine.proofs.Rows.{apart-others, apart-own, passed}
use Rattle.mt_machine.proofs.Entries as entries
use Rattle.mt_machine.proofs.Entries.{acl_place, both_true, entries-others, entries-own, own_entries-apart}
use Rattle.mt_machine.proofs.Fabrics.{known-length, known-members, known-nocs, known-rows, noc_place, rebuilt-known}

-- The parts of the veil.

networks-bare : (networks : List Network) → untagged network_tree (map bare_network networks) ≡ untagged network_tree networks
networks-bare [] = refl
networks-bare (network ∷ networks) = ap (λ (es : Elements). Rattle.mt_tlv.specs.Tree.more Rattle.mt_tlv.specs.declared.value.Tag.TheVariants.Anonymous (network_tree network) es) (networks-bare networks)

abbrev known_parts : ℕ → NodeState → Parts
known_parts fabric s = record { entries = entries.apart fabric s.entries; fabrics = map (fabric_known_to fabric) s.fabrics; roots = s.roots; networks = map bare_network s.networks }

parts-veil : (fabric : ℕ) (s : NodeState) → fabrics_ascend s.fabrics ≡ true → parts (veil fabric s) ≡ known_parts fabric s
parts-veil fabric s up = λ i. record { entries = entries.apart fabric s.entries; fabrics = rebuilt-known fabric s.fabrics up i; roots = s.roots; networks = map bare_network s.networks }

value-same : (fabric : ℕ) (s : NodeState) (place : Place) → computed_value (known_parts fabric s) place ≡ computed_value (parts s) place
value-same fabric s place = rw (networks-bare s.networks, known-length fabric s.fabrics) refl

acl-is : (place : Place) → is_acl place ≡ true → acl_place place.endpoint ≡ place
acl-is place h =
    let both = both_true (place.cluster == 0x1f) (place.leaf == 0) h in
    let cluster : 0x1f ≡ place.cluster = grind (arith, both.0) in
    let leaf : 0 ≡ place.leaf = grind (arith, both.1) in
    λ i. record { endpoint = place.endpoint; cluster = cluster i; leaf = leaf i }

nocs-is : (place : Place) → is_nocs place ≡ true → noc_place place.endpoint ≡ place
nocs-is place h =
    let both = both_true (place.cluster == 0x3e) (place.leaf == 0) h in
    let cluster : 0x3e ≡ place.cluster = grind (arith, both.0) in
    let leaf : 0 ≡ place.leaf = grind (arith, both.1) in
    λ i. record { endpoint = place.endpoint; cluster = cluster i; leaf = leaf i }

-- the rows of one kind or of the other
choose : (F : List Row → List Row) (b : Bool) (x y x' y' : List Row) → (b ≡ true → F x ≡ F x') → (b ≡ false → F y ≡ F y') → F (cond b x y) ≡ F (cond b x' y')
choose F true x y x' y' h k = h refl
choose F false x y x' y' h k = k refl

module _ (fabric : ℕ) (s : NodeState) (up : fabrics_ascend s.fabrics ≡ true) (test : ℕ → Bool)
    (same_entries : (endpoint : ℕ) → passed fabric test (map (entry_row (acl_place endpoint)) (entries.apart fabric s.entries)) ≡ passed fabric test (map (entry_row (acl_place endpoint)) s.entries))
    (same_stored : (place : Place) → passed fabric test (filter (stands_at place) (veil fabric s).rows) ≡ passed fabric test (filter (stands_at place) s.rows)) where
  computed-known : (place : Place) → passed fabric test (computed_rows (known_parts fabric s) place) ≡ passed fabric test (computed_rows (parts s) place)
  unfolding computed_rows
  computed-known place = choose (passed fabric test) (is_acl place)
      (map (entry_row place) (entries.apart fabric s.entries)) _ (map (entry_row place) s.entries) _
      (λ h. subst (λ (p : Place). passed fabric test (map (entry_row p) (entries.apart fabric s.entries)) ≡ passed fabric test (map (entry_row p) s.entries)) (acl-is place h) (same_entries place.endpoint))
      (λ _. choose (passed fabric test) (is_nocs place)
      (map (noc_row place) (map (fabric_known_to fabric) s.fabrics)) _ (map (noc_row place) s.fabrics) _
      (λ h. subst (λ (p : Place). passed fabric test (map (noc_row p) (map (fabric_known_to fabric) s.fabrics)) ≡ passed fabric test (map (noc_row p) s.fabrics)) (nocs-is place h) (known-nocs place.endpoint fabric test 0 s.fabrics up))
      (λ _. choose (passed fabric test) (is_fabrics place)
      (map (fabric_row place) (map (fabric_known_to fabric) s.fabrics)) (value_rows place (computed_value (known_parts fabric s) place)) (map (fabric_row place) s.fabrics) (value_rows place (computed_value (parts s) place))
      (λ _. ap (passed fabric test) (known-rows place fabric s.fabrics))
      (λ _. ap (λ (o : Option Rattle.mt_tlv.specs.declared.value.Value.Value). passed fabric test (value_rows place o)) (value-same fabric s place))))

  passed-veil : (place : Place) → passed fabric test (rows_of (veil fabric s) place) ≡ passed fabric test (rows_of s place)
  passed-veil place = choose (passed fabric test) (is_stored place)
      (filter (stands_at place) (veil fabric s).rows) (computed_rows (parts (veil fabric s)) place) (filter (stands_at place) s.rows) (computed_rows (parts s) place)
      (λ _. same_stored place)
      (λ _. ap (λ (p : Parts). passed fabric test (computed_rows p place)) (parts-veil fabric s up) ∙ computed-known place)

-- in the order of fabrics
abbrev ordered : ℕ → List Row → List Row
ordered fabric rows = passed fabric (λ n. nat_lt n fabric) rows ++ (passed fabric (λ n. n == fabric) rows ++ passed fabric (λ n. nat_lt fabric n) rows)

seen-ordered : (fabric : ℕ) (rows : List Row) → map (seen_by fabric) (in_order fabric rows) ≡ ordered fabric rows
seen-ordered fabric rows =
    let lower = filter (λ (row : Row). nat_lt row.fabric fabric) rows in
    let own = filter (λ (row : Row). row.fabric == fabric) rows in
    let higher = filter (λ (row : Row). nat_lt fabric row.fabric) rows in
    map-append (seen_by fabric) lower (own ++ higher) ∙ ap (λ (rs : List Row). map (seen_by fabric) lower ++ rs) (map-append (seen_by fabric) own higher)

not_below : (n : ℕ) → nat_lt n n ≡ false
not_below n = grind arith

rows-veil : (fabric : ℕ) (s : NodeState) → IsValid s → (place : Place) → map (seen_by fabric) (in_order fabric (rows_of (veil fabric s) place)) ≡ map (seen_by fabric) (in_order fabric (rows_of s place))
rows-veil fabric s valid place =
    let lower = passed-veil fabric s valid.fabrics_rise (λ n. nat_lt n fabric) (λ e. entries-others e fabric (λ n. nat_lt n fabric) s.entries (not_below fabric) valid.entries_rise) (λ p. apart-others fabric p (λ n. nat_lt n fabric) s.rows (not_below fabric)) place in
    let own = passed-veil fabric s valid.fabrics_rise (λ n. n == fabric) (λ e. entries-own e fabric s.entries) (λ p. apart-own fabric p s.rows) place in
    let higher = passed-veil fabric s valid.fabrics_rise (λ n. nat_lt fabric n) (λ e. entries-others e fabric (λ n. nat_lt fabric n) s.entries (not_below fabric) valid.entries_rise) (λ p. apart-others fabric p (λ n. nat_lt fabric n) s.rows (not_below fabric)) place in
    seen-ordered fabric (rows_of (veil fabric s) place)
    ∙ (λ i. lower i ++ (own i ++ higher i))
    ∙ sym (seen-ordered fabric (rows_of s place))

pub plain-veil : (fabric : ℕ) (plain : Option ℕ) → is_that fabric (if is_that fabric plain then Some fabric else None) ≡ is_that fabric plain
plain-veil fabric None = refl
plain-veil fabric (Some other) = by_test (other == fabric)
  where
    by_test : (own : Bool) → is_that fabric (if own then Some fabric else None) ≡ own
    by_test true = grind arith
    by_test false = refl

pub members-veil : (fabric : ℕ) (s : NodeState) → fabrics_ascend s.fabrics ≡ true → list_any (has_index fabric) (veil fabric s).fabrics ≡ list_any (has_index fabric) s.fabrics
members-veil fabric s up = ap (list_any (has_index fabric)) (rebuilt-known fabric s.fabrics up) ∙ known-members fabric s.fabrics

-- What is known of fabrics, networks and the fail-safe is known on the veil.

fabrics-known : (fabric : ℕ) (fs : List Fabric) → map (fabric_known_to fabric) (map (fabric_known_to fabric) fs) ≡ map (fabric_known_to fabric) fs
fabrics-known fabric [] = refl
fabrics-known fabric (f ∷ fs) = elim (cases_Bool (f.index == fabric)) [
  | inl mine ↦ rw (mine, mine) (ap (λ (rest : List Fabric). f ∷ rest) (fabrics-known fabric fs))
  | inr other ↦ rw (other, other) (ap (λ (rest : List Fabric). record f { credentials = bare_credentials f.credentials } ∷ rest) (fabrics-known fabric fs))
]

pub bare_networks_again : (networks : List Network) → map bare_network (map bare_network networks) ≡ map bare_network networks
bare_networks_again [] = refl
bare_networks_again (network ∷ networks) = ap (λ rest. bare_network network ∷ rest) (bare_networks_again networks)

pub bare_again : (saved : Option Credentials) (armed : Option Armed) → option_map bare_armed (option_map (with_saved saved) (option_map bare_armed armed)) ≡ option_map bare_armed armed
bare_again saved None = refl
bare_again saved (Some armed) = refl

pub sees-veil : (fabric : ℕ) (s : NodeState) → IsValid s → observation fabric (veil fabric s) ≡ observation fabric s
sees-veil fabric s valid =
    λ i. record {
      fabric = fabric;
      is_member = members-veil fabric s valid.fabrics_rise i;
      is_plain = plain-veil fabric s.plain i;
      seen = record {
        rows_at = λ place. rows-veil fabric s valid place i;
        version_of = version_in s.versions;
        entries = own_entries-apart fabric s.entries i;
      };
      known = record {
        fabrics = (ap (map (fabric_known_to fabric)) (rebuilt-known fabric s.fabrics valid.fabrics_rise) ∙ fabrics-known fabric s.fabrics) i;
        networks = bare_networks_again s.networks i;
        armed = bare_again (saved_for fabric s.armed) s.armed i;
      };
      clock = s.clock;
    }
