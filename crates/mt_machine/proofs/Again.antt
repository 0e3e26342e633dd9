-- The veil of a fabric has that fabric's own part, and shows it the same public view.
use Rattle.std.proofs.Common.{◌≡◌, ℕ, Bool, true, false, not, ◌==◌, List, [], ◌∷◌, ◌++◌, Option, Some, None, refl, ap, ◌∙◌, filter, map, if◌then◌else◌, arith}
use Rattle.std.specs.Option.{option_map}
use Rattle.std.proofs.lemmas.List.{append-nil, map-append}
use Rattle.std.proofs.lemmas.List.Elements.{filter-append}
use Rattle.mt_model.specs.Optional.{is_that}
use Rattle.mt_model.specs.rows.Order.{fabrics_ascend}
use Rattle.mt_model.specs.rows.Seen.{own_entries}
use Rattle.mt_model.specs.rows.Sight.{seen_by}
use Rattle.mt_model.specs.declared.tables.access.AclEntry.{AclEntry}
use Rattle.mt_model.specs.declared.tables.fabric.Fabric.{Fabric}
use Rattle.mt_model.specs.declared.tables.network.Armed.{Armed}
use Rattle.mt_model.specs.declared.rows.place.Row.{Row}
use Rattle.mt_model.specs.declared.node.state.NodeSession.{NodeSession}
use Rattle.mt_model.specs.declared.node.state.NodeState.{NodeState}
use Rattle.mt_subs.specs.Leaving.{is_live_as}
use Rattle.mt_machine.specs.Isolation.{bare_fabric, descriptor_of, own, owns, public_view, saved_for, veil, with_saved}
use Rattle.mt_machine.proofs.Entries.{apart, bare_others, own_entries-apart}
use Rattle.mt_machine.proofs.Fabrics.{own_fabrics, rebuilt-known}
use Rattle.mt_machine.proofs.Rows as rows
use Rattle.mt_machine.proofs.Rows.{others, seen-fabric, seen-twice}
use Rattle.mt_machine.proofs.Seeing.{bare_again, bare_networks_again, plain-veil}
use Rattle.mt_model.specs.tables.Known.{bare_armed, fabric_known_to}

-- Rows.

module _ (fabric : ℕ) where
  abbrev is_mine : Row → Bool
  is_mine row = owns fabric row

  abbrev is_others : Row → Bool
  is_others row = not (owns fabric row)

  mine_of_mine : (rs : List Row) → filter is_mine (filter is_mine rs) ≡ filter is_mine rs
  mine_of_mine [] = refl
  mine_of_mine (row ∷ rs) = grind (arith, mine_of_mine rs)

  mine_of_others : (rs : List Row) → filter is_mine (others fabric rs) ≡ []
  mine_of_others [] = refl
  mine_of_others (row ∷ rs) = grind (arith, mine_of_others rs, seen-fabric fabric row)

  others_of_mine : (rs : List Row) → map (seen_by fabric) (filter is_others (filter is_mine rs)) ≡ []
  others_of_mine [] = refl
  others_of_mine (row ∷ rs) = grind (arith, others_of_mine rs)

  others_of_others : (rs : List Row) → map (seen_by fabric) (filter is_others (others fabric rs)) ≡ others fabric rs
  others_of_others [] = refl
  others_of_others (row ∷ rs) = grind (arith, others_of_others rs, seen-fabric fabric row, seen-twice fabric row)

  rows_mine : (rs : List Row) → filter is_mine (rows.apart fabric rs) ≡ filter is_mine rs
  rows_mine rs =
      filter-append is_mine (filter is_mine rs) (others fabric rs)
      ∙ (λ i. mine_of_mine rs i ++ mine_of_others rs i)
      ∙ append-nil (filter is_mine rs)

  rows_others : (rs : List Row) → map (seen_by fabric) (filter is_others (rows.apart fabric rs)) ≡ others fabric rs
  rows_others rs =
      ap (map (seen_by fabric)) (filter-append is_others (filter is_mine rs) (others fabric rs))
      ∙ map-append (seen_by fabric) (filter is_others (filter is_mine rs)) (filter is_others (others fabric rs))
      ∙ (λ i. others_of_mine rs i ++ others_of_others rs i)

  -- Whose the others' entries are.

  abbrev is_others_entry : AclEntry → Bool
  is_others_entry entry = not (entry.fabric == fabric)

  abbrev owners_of : List AclEntry → List ℕ
  owners_of es = map (λ (entry : AclEntry). entry.fabric) (filter is_others_entry es)

  owners_of_own : (es : List AclEntry) → owners_of (own_entries fabric es) ≡ []
  owners_of_own [] = refl
  owners_of_own (e ∷ es) = grind (arith, owners_of_own es)

  owners_of_others : (es : List AclEntry) → owners_of (bare_others fabric es) ≡ owners_of es
  owners_of_others [] = refl
  owners_of_others (e ∷ es) = grind (arith, owners_of_others es)

  owners_again : (es : List AclEntry) → owners_of (apart fabric es) ≡ owners_of es
  owners_again es =
      ap (map (λ (entry : AclEntry). entry.fabric)) (filter-append is_others_entry (own_entries fabric es) (bare_others fabric es))
      ∙ map-append (λ (entry : AclEntry). entry.fabric) (filter is_others_entry (own_entries fabric es)) (filter is_others_entry (bare_others fabric es))
      ∙ (λ i. owners_of_own es i ++ owners_of_others es i)

  -- Fabrics.

  -- one fabric more, its own or another
  own_of_one : (f : Fabric) (fs : List Fabric) (mine : Bool) → (f.index == fabric) ≡ mine
      → own_fabrics fabric (map (fabric_known_to fabric) fs) ≡ own_fabrics fabric fs
      → own_fabrics fabric ((if mine then f else bare_fabric (descriptor_of f)) ∷ map (fabric_known_to fabric) fs) ≡ own_fabrics fabric (f ∷ fs)
  own_of_one f fs true is again = rw is (ap (λ (rest : List Fabric). f ∷ rest) again)
  own_of_one f fs false is again = rw is (again)

  own_of_known : (fs : List Fabric) → own_fabrics fabric (map (fabric_known_to fabric) fs) ≡ own_fabrics fabric fs
  own_of_known [] = refl
  own_of_known (f ∷ fs) = own_of_one f fs (f.index == fabric) refl (own_of_known fs)

  described : (f : Fabric) → descriptor_of (fabric_known_to fabric f) ≡ descriptor_of f
  described f = by_test (f.index == fabric)
    where
      by_test : (mine : Bool) → descriptor_of (if mine then f else bare_fabric (descriptor_of f)) ≡ descriptor_of f
      by_test true = refl
      by_test false = refl

  all_described : (fs : List Fabric) → map descriptor_of (map (fabric_known_to fabric) fs) ≡ map descriptor_of fs
  all_described [] = refl
  all_described (f ∷ fs) = λ i. described f i ∷ all_described fs i

  -- The fail-safe, networks and sessions.

  saved_again : (armed : Option Armed) → saved_for fabric (option_map (with_saved (saved_for fabric armed)) (option_map bare_armed armed)) ≡ saved_for fabric armed
  saved_again None = refl
  saved_again (Some armed) = by_test (is_that fabric armed.updated)
    where
      by_test : (own : Bool) → (if own then (if own then armed.saved_credentials else None) else None) ≡ (if own then armed.saved_credentials else None)
      by_test true = refl
      by_test false = refl

  live_again : (sessions : List NodeSession)
      → filter (λ (session : NodeSession). is_live_as fabric session.standing) (filter (λ (session : NodeSession). is_live_as fabric session.standing) sessions)
      ≡ filter (λ (session : NodeSession). is_live_as fabric session.standing) sessions
  live_again [] = refl
  live_again (session ∷ sessions) = grind (arith, live_again sessions)

-- Both parts.

pub own-again : (fabric : ℕ) (s : NodeState) → fabrics_ascend s.fabrics ≡ true → own fabric (veil fabric s) ≡ own fabric s
own-again fabric s up = λ i. record {
  rows = rows_mine fabric s.rows i;
  entries = own_entries-apart fabric s.entries i;
  fabrics = (ap (own_fabrics fabric) (rebuilt-known fabric s.fabrics up) ∙ own_of_known fabric s.fabrics) i;
  saved = saved_again fabric s.armed i;
  sessions = live_again fabric s.sessions i;
  is_plain = plain-veil fabric s.plain i;
}

pub view-again : (fabric : ℕ) (s : NodeState) → fabrics_ascend s.fabrics ≡ true → public_view fabric (veil fabric s) ≡ public_view fabric s
view-again fabric s up = λ i. record {
  rows = rows_others fabric s.rows i;
  owners = owners_again fabric s.entries i;
  fabrics = (ap (map descriptor_of) (rebuilt-known fabric s.fabrics up) ∙ all_described fabric s.fabrics) i;
  roots = s.roots;
  networks = bare_networks_again s.networks i;
  armed = bare_again (saved_for fabric s.armed) s.armed i;
  versions = s.versions;
  changes = s.changes;
  boot = s.boot;
  clock = s.clock;
}
