-- The table of fabrics as a fabric sees it.
use Rattle.std.proofs.Common.{◌≡◌, ℕ, suc, Bool, true, false, ◌==◌, ◌<◌, ◌≤◌, nat_lt, List, [], ◌∷◌, None, length, refl, ap, ◌∙◌, filter, map, if◌then◌else◌, arith, unwrap_or}
use Rattle.std.specs.List.{find, list_any}
use borrow.Author.Tests.{ltb-true}
use Rattle.mt_fabrics.specs.Table.{has_index}
use Rattle.mt_model.specs.rows.Order.{rise_above}
use Rattle.mt_model.specs.rows.Sight.{seen_by}
use Rattle.mt_model.specs.tables.Known.{fabric_known_to}
use Rattle.mt_model.specs.declared.tables.fabric.Fabric.{Fabric}
use Rattle.mt_model.specs.declared.rows.place.Place.{Place}
use Rattle.mt_apps.specs.OperationalCredentials.{fabric_row, noc_row}
use Rattle.mt_machine.specs.Isolation.{bare_fabric, descriptor_of, own_or_bare}
use Rattle.mt_machine.proofs.Entries.{both_true, is_other}
use Rattle.mt_machine.proofs.Rows.{passed}

abbrev pub own_fabrics : ℕ → List Fabric → List Fabric
own_fabrics fabric fs = filter (has_index fabric) fs

-- the table, from the descriptors and its own fabrics
abbrev pub rebuilt : List Fabric → List Fabric → List Fabric
rebuilt own fs = map (own_or_bare own) (map descriptor_of fs)

-- no fabric of higher indexes is its own
none_above : (fabric least : ℕ) (fs : List Fabric) → fabric ≤ least → rise_above least fs ≡ true → own_fabrics fabric fs ≡ []
none_above fabric least [] h up = refl
none_above fabric least (f ∷ fs) h up =
    let both = both_true (nat_lt least f.index) (rise_above f.index fs) up in
    let above : least < f.index = ltb-true least f.index both.0 in
    grind (arith, none_above fabric f.index fs (omega arith) both.1)

found-own : (f : Fabric) (own : List Fabric) → own ≡ f ∷ [] → own_or_bare own (descriptor_of f) ≡ f
found-own f own is = rw (is, same f.index) refl
  where
    same : (n : ℕ) → (n == n) ≡ true
    same n = grind arith

-- none of other indexes is among them
found-none : (fabric index : ℕ) (fs : List Fabric) → (index == fabric) ≡ false → find (has_index index) (own_fabrics fabric fs) ≡ None
found-none fabric index [] h = refl
found-none fabric index (f ∷ fs) h = grind (arith, found-none fabric index fs h)

module _ (fabric : ℕ) (all : List Fabric) where
  abbrev own : List Fabric
  own = own_fabrics fabric all

  one_known : (f : Fabric) (mine : Bool) → (f.index == fabric) ≡ mine → (mine ≡ true → own ≡ f ∷ []) → own_or_bare own (descriptor_of f) ≡ (if mine then f else bare_fabric (descriptor_of f))
  one_known f true is h = found-own f own (h refl)
  one_known f false is h = ap (λ o. unwrap_or o (bare_fabric (descriptor_of f))) (found-none fabric f.index all is)

  behind : (least : ℕ) (fs : List Fabric) → rise_above least fs ≡ true → fabric ≤ least → rebuilt own fs ≡ map (fabric_known_to fabric) fs
  behind least [] up h = refl
  behind least (f ∷ fs) up h =
      let both = both_true (nat_lt least f.index) (rise_above f.index fs) up in
      let above : least < f.index = ltb-true least f.index both.0 in
      let other : (f.index == fabric) ≡ false = grind arith in
      let known : own_or_bare own (descriptor_of f) ≡ fabric_known_to fabric f = one_known f (f.index == fabric) refl (λ e. cc) in
      λ i. known i ∷ behind f.index fs both.1 (omega arith) i

  at_head : (f : Fabric) (fs : List Fabric) (mine : Bool) → (f.index == fabric) ≡ mine → rise_above f.index fs ≡ true → own ≡ own_fabrics fabric (f ∷ fs)
      → (mine ≡ true → own ≡ f ∷ []) × (mine ≡ false → own ≡ own_fabrics fabric fs)
  at_head f fs true is up e = (λ m. e ∙ rw (is, none_above fabric f.index fs (grind arith) up) refl, λ m. cc)
  at_head f fs false is up e = (λ m. cc, λ m. e ∙ rw is refl)

  before : (least : ℕ) (fs : List Fabric) → rise_above least fs ≡ true → own ≡ own_fabrics fabric fs → rebuilt own fs ≡ map (fabric_known_to fabric) fs
  before least [] up e = refl
  before least (f ∷ fs) up e =
      let both = both_true (nat_lt least f.index) (rise_above f.index fs) up in
      let here = at_head f fs (f.index == fabric) refl both.1 e in
      let known : own_or_bare own (descriptor_of f) ≡ fabric_known_to fabric f = one_known f (f.index == fabric) refl here.0 in
      let rest : rebuilt own fs ≡ map (fabric_known_to fabric) fs = rest_of f.index (f.index == fabric) refl fs both.1 here.1 (before f.index fs both.1) in
      λ i. known i ∷ rest i
    where
      rest_of : (index : ℕ) (mine : Bool) → (index == fabric) ≡ mine → (fs : List Fabric) → rise_above index fs ≡ true → (mine ≡ false → own ≡ own_fabrics fabric fs)
          → (own ≡ own_fabrics fabric fs → rebuilt own fs ≡ map (fabric_known_to fabric) fs) → rebuilt own fs ≡ map (fabric_known_to fabric) fs
      rest_of index true is fs up h again = behind index fs up (grind arith)
      rest_of index false is fs up h again = again (h refl)

-- The rebuilt table has all that is a fabric's own, and of the others what is known of them.
pub rebuilt-known : (fabric : ℕ) (fs : List Fabric) → rise_above 0 fs ≡ true → rebuilt (own_fabrics fabric fs) fs ≡ map (fabric_known_to fabric) fs
rebuilt-known fabric fs up = before fabric fs 0 fs up refl

-- What is seen of the fabrics that are known.

known-index : (fabric : ℕ) (f : Fabric) → (fabric_known_to fabric f).index ≡ f.index
known-index fabric f = by_test (f.index == fabric)
  where
    by_test : (mine : Bool) → (if mine then f else bare_fabric (descriptor_of f)).index ≡ f.index
    by_test true = refl
    by_test false = refl

known-row : (place : Place) (fabric : ℕ) (f : Fabric) → fabric_row place (fabric_known_to fabric f) ≡ fabric_row place f
known-row place fabric f = by_test (f.index == fabric)
  where
    by_test : (mine : Bool) → fabric_row place (if mine then f else bare_fabric (descriptor_of f)) ≡ fabric_row place f
    by_test true = refl
    by_test false = refl

abbrev pub noc_place : ℕ → Place
noc_place endpoint = record { endpoint = endpoint; cluster = 0x3e; leaf = 0 }

known-noc : (endpoint fabric : ℕ) (f : Fabric) → 1 ≤ f.index → seen_by fabric (noc_row (noc_place endpoint) (fabric_known_to fabric f)) ≡ seen_by fabric (noc_row (noc_place endpoint) f)
known-noc endpoint fabric f positive = by_test (f.index == fabric) refl
  where
    by_test : (mine : Bool) → (f.index == fabric) ≡ mine → seen_by fabric (noc_row (noc_place endpoint) (if mine then f else bare_fabric (descriptor_of f))) ≡ seen_by fabric (noc_row (noc_place endpoint) f)
    by_test true is = refl
    by_test false is = rw (is_other f.index fabric is positive) refl

pub known-rows : (place : Place) (fabric : ℕ) (fs : List Fabric) → map (fabric_row place) (map (fabric_known_to fabric) fs) ≡ map (fabric_row place) fs
known-rows place fabric [] = refl
known-rows place fabric (f ∷ fs) = λ i. known-row place fabric f i ∷ known-rows place fabric fs i

pub known-nocs : (endpoint fabric : ℕ) (test : ℕ → Bool) (least : ℕ) (fs : List Fabric) → rise_above least fs ≡ true
    → passed fabric test (map (noc_row (noc_place endpoint)) (map (fabric_known_to fabric) fs)) ≡ passed fabric test (map (noc_row (noc_place endpoint)) fs)
known-nocs endpoint fabric test least [] up = refl
known-nocs endpoint fabric test least (f ∷ fs) up =
    let both = both_true (nat_lt least f.index) (rise_above f.index fs) up in
    let above : least < f.index = ltb-true least f.index both.0 in
    grind (arith, known-nocs endpoint fabric test f.index fs both.1, known-noc endpoint fabric f (omega arith), known-index fabric f)

pub known-members : (fabric : ℕ) (fs : List Fabric) → list_any (has_index fabric) (map (fabric_known_to fabric) fs) ≡ list_any (has_index fabric) fs
known-members fabric [] = refl
known-members fabric (f ∷ fs) = grind (arith, known-members fabric fs, known-index fabric f)

pub known-length : (fabric : ℕ) (fs : List Fabric) → length (map (fabric_known_to fabric) fs) ≡ length fs
known-length fabric [] = refl
known-length fabric (f ∷ fs) = ap (λ n. suc n) (known-length fabric fs)
