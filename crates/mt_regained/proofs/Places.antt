-- Which places the table has, and which of them have keys.
use Rattle.std.proofs.Common.{◌≡◌, ◌∙◌, refl, sym, ap, subst, ℕ, inl, inr, ◌&&◌, ◌==◌, is_ok, Bool, true, false, List, [], ◌∷◌, Option, Some, None, Result, Ok, Err, if◌then◌else◌, map}
use Rattle.std.proofs.lemmas.Bool.{and_parts, cases_Bool, eqb-true}
use Rattle.std.specs.Prelude.{ok_or}
use Rattle.std.specs.List.{find, flat_map, list_all, list_any}
use Rattle.std.specs.Option.{option_map}
use Rattle.mt_model.specs.rows.Sight.{same_place}
use Rattle.mt_model.specs.declared.messages.status.Status.{Status}
use Rattle.mt_model.specs.declared.messages.status.Status.TheVariants.{UnsupportedAttribute}
use Rattle.mt_model.specs.declared.rows.place.Place.{Place}
use Rattle.mt_meta.specs.Finding.{find_data_of, find_of, found, has_cluster, is_endpoint, missing_of}
use Rattle.mt_meta.specs.Places.{all_places, data_places, place_of}
use Rattle.mt_meta.specs.Stored.{row_in}
use Rattle.mt_meta.specs.Table.{all_attributes_of, all_data_of, attributes_of, clusters_of, endpoints, extensions_of, globals}
use Rattle.mt_meta.specs.declared.meta.Meta.{Meta}
use Rattle.mt_meta.specs.declared.rows.AttributeRow.{AttributeRow}
use Rattle.mt_grammar.specs.Values.{has_items, is_single, table_row}
use Rattle.mt_lasting.specs.Keys.{acl_place, item_places, single_places}
use Rattle.mt_regained.proofs.Lists.{IsIn, in-any, in-flat, in-map, tested}

pub place-same : (p q : Place) → same_place p q ≡ true → p ≡ q
place-same p q same =
    let outer = and_parts (p.endpoint == q.endpoint) (p.cluster == q.cluster && p.leaf == q.leaf) same in
    let inner = and_parts (p.cluster == q.cluster) (p.leaf == q.leaf) outer.1 in
    let endpoint = eqb-true p.endpoint q.endpoint outer.0 in
    let cluster = eqb-true p.cluster q.cluster inner.0 in
    let leaf = eqb-true p.leaf q.leaf inner.1 in
    λ i. record { endpoint = endpoint i; cluster = cluster i; leaf = leaf i }

-- What is found is there.

number_in : (n : ℕ) (ns : List ℕ) → list_any (λ m. m == n) ns ≡ true → IsIn n ns
number_in n ns any = in-any (λ m. m == n) n (λ m same. sym (eqb-true m n same)) ns any

found_in : (leaf : ℕ) (rows : List AttributeRow) (row : AttributeRow) → find (λ (r : AttributeRow). r.number == leaf) rows ≡ Some row → IsIn row rows × (row.number ≡ leaf)
found_in leaf [] row is = absurd cc
found_in leaf (first ∷ rows) row is = elim (cases_Bool (first.number == leaf)) [
  | inl here ↦
      let one : Some first ≡ Some row = rw here at is in
      let same : first ≡ row = cc in
      (inl (sym same), ap (λ (r : AttributeRow). r.number) (sym same) ∙ eqb-true first.number leaf here)
  | inr not_here ↦
      let rest : find (λ (r : AttributeRow). r.number == leaf) rows ≡ Some row = rw not_here at is in
      let later = found_in leaf rows row rest in
      (inr later.0, later.1)
]

module _ (rows_of : ℕ → List AttributeRow) (place : Place) where
  abbrev there : Option Meta
  there = option_map (λ (row : AttributeRow). row.meta) (find (λ (row : AttributeRow). row.number == place.leaf) (rows_of place.cluster))

  abbrev of_cluster : ℕ → ℕ → List Place
  of_cluster endpoint cluster = map (place_of endpoint cluster) (rows_of cluster)

  abbrev of_endpoint : ℕ → List Place
  of_endpoint endpoint = flat_map (of_cluster endpoint) (clusters_of endpoint)

  by_row : (row : Option AttributeRow) → find (λ (r : AttributeRow). r.number == place.leaf) (rows_of place.cluster) ≡ row → is_ok (ok_or (option_map (λ (r : AttributeRow). r.meta) row) UnsupportedAttribute) ≡ true
      → IsIn place (of_cluster place.endpoint place.cluster)
  by_row None is ok = absurd cc
  by_row (Some row) is ok =
      let inside = found_in place.leaf (rows_of place.cluster) row is in
      let at : place_of place.endpoint place.cluster row ≡ place = λ i. record { endpoint = place.endpoint; cluster = place.cluster; leaf = inside.1 i } in
      subst (λ (p : Place). IsIn p (of_cluster place.endpoint place.cluster)) at (in-map (place_of place.endpoint place.cluster) row (rows_of place.cluster) inside.0)

  missing : (status : Option Status) → is_ok (found status there UnsupportedAttribute) ≡ true → is_ok (ok_or there UnsupportedAttribute) ≡ true
  missing None ok = ok
  missing (Some status) ok = absurd cc

  pub listed : is_ok (found (missing_of place) there UnsupportedAttribute) ≡ true → IsIn place (flat_map of_endpoint endpoints)
  listed ok = elim (cases_Bool (is_endpoint place.endpoint)) [
    | inr none ↦
        let wrong : false ≡ true = rw none at ok in
        absurd cc
    | inl endpoint ↦ elim (cases_Bool (has_cluster place.endpoint place.cluster)) [
      | inr none ↦
          let wrong : false ≡ true = rw (endpoint, none) at ok in
          absurd cc
      | inl cluster ↦
          let inside = by_row (find (λ (r : AttributeRow). r.number == place.leaf) (rows_of place.cluster)) refl (missing (missing_of place) ok) in
          in-flat of_endpoint place.endpoint place endpoints (number_in place.endpoint endpoints endpoint)
          (in-flat (of_cluster place.endpoint) place.cluster place (clusters_of place.endpoint) (number_in place.cluster (clusters_of place.endpoint) cluster) inside)
    ]
  ]

-- The places that have keys.

is_single_in : Option AttributeRow → Bool
is_single_in None = false
is_single_in (Some row) = is_single row.meta

single_known : Place → Bool
single_known place = if is_single_in (table_row place) then list_any (same_place place) single_places else true

singles_known : list_all single_known all_places ≡ true
unfolding is_single_in single_known endpoints clusters_of attributes_of globals extensions_of
singles_known = refl

table_found : (place : Place) (ok : Bool) (row : AttributeRow) → (if ok then row_in (attributes_of place.cluster) place.leaf else None) ≡ Some row → ok ≡ true
table_found place true row is = refl
table_found place false row is = absurd cc

pub single_listed : (place : Place) (row : AttributeRow) → table_row place ≡ Some row → is_single row.meta ≡ true → IsIn place single_places
unfolding is_single_in single_known
single_listed place row is single =
    let there = listed all_attributes_of place (table_found place (is_ok (find_of place)) row is) in
    let kept : is_single_in (table_row place) ≡ true = ap is_single_in is ∙ single in
    let known : single_known place ≡ true = tested single_known all_places singles_known place there in
    let among : list_any (same_place place) single_places ≡ true = rw kept at known in
    in-any (same_place place) place (place-same place) single_places among

has_items_in : Result Meta Status → Bool
has_items_in (Ok meta) = has_items meta
has_items_in (Err status) = false

items_known : Place → Bool
items_known place = if has_items_in (find_data_of place) then list_any (same_place place) (acl_place ∷ item_places) else true

all_items_known : list_all items_known data_places ≡ true
unfolding has_items_in items_known endpoints clusters_of attributes_of globals extensions_of
all_items_known = refl

pub items_listed : (place : Place) (meta : Meta) → find_data_of place ≡ Ok meta → has_items meta ≡ true → IsIn place (acl_place ∷ item_places)
unfolding has_items_in items_known
items_listed place meta is items =
    let there = listed all_data_of place (ap is_ok is) in
    let kept : has_items_in (find_data_of place) ≡ true = ap has_items_in is ∙ items in
    let known : items_known place ≡ true = tested items_known data_places all_items_known place there in
    let among : list_any (same_place place) (acl_place ∷ item_places) ≡ true = rw kept at known in
    in-any (same_place place) place (place-same place) (acl_place ∷ item_places) among
