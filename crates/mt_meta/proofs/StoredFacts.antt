-- The stored places of the table, by computation.
use Rattle.std.proofs.Common.{◌≡◌, ◌&&◌, Bool, true, false, List, [], ◌∷◌, inl, inr, is_ok, filter, refl, sym, ap, ◌∙◌}
use Rattle.std.specs.List.{list_any}
use Rattle.std.proofs.lemmas.Bool.{and_parts, cases_Bool, eqb-true}
use Rattle.mt_model.specs.rows.Sight.{same_place}
use Rattle.mt_model.specs.rows.Stored.{is_stored_place, stored_places}
use Rattle.mt_model.specs.declared.rows.place.Place.{Place}
use Rattle.mt_meta.specs.Finding.{find_data_of}
use Rattle.mt_meta.specs.Places.{data_places, is_at}
use Rattle.mt_meta.specs.Stored.{is_stored}
use Rattle.mt_meta.specs.Table.{attributes_of, clusters_of, endpoints, extensions_of, globals}
use Rattle.mt_meta.proofs.TableFacts.{any-ext, data-listed, eqb-sym}

stored-listed : filter is_stored data_places ≡ stored_places
unfolding endpoints clusters_of attributes_of globals extensions_of is_stored
stored-listed = refl

same-is : (p q : Place) → same_place p q ≡ true → p ≡ q
same-is p q e =
    let first = and_parts _ _ e in
    let rest = and_parts _ _ first.1 in
    let a : p.endpoint ≡ q.endpoint = eqb-true _ _ first.0 in
    let b : p.cluster ≡ q.cluster = eqb-true _ _ rest.0 in
    let d : p.leaf ≡ q.leaf = eqb-true _ _ rest.1 in
    λ i. record { endpoint = a i; cluster = b i; leaf = d i }

same-sym : (p q : Place) → same_place p q ≡ is_at p q
same-sym p q = λ i. eqb-sym p.endpoint q.endpoint i && (eqb-sym p.cluster q.cluster i && eqb-sym p.leaf q.leaf i)

none-of : (b c : Bool) → b ≡ false → (b && c) ≡ false
none-of b c e = rw e refl

-- a place is among those that pass where it passes and is among all
among-filter : (p : Place → Bool) (place : Place) (places : List Place) → list_any (same_place place) (filter p places) ≡ (p place && list_any (same_place place) places)
among-filter p place [] = elim (cases_Bool (p place)) [ inl e ↦ rw e refl | inr e ↦ rw e refl ]
among-filter p place (q ∷ places) = elim (cases_Bool (same_place place q)) [
  | inl same ↦
      let passes : p place ≡ p q = ap p (same-is place q same) in
      elim (cases_Bool (p q)) [
        | inl e ↦ rw (e, same, passes, e) refl
        | inr e ↦ rw e (among-filter p place places ∙ none-of (p place) _ (passes ∙ e) ∙ sym (none-of (p place) _ (passes ∙ e)))
      ]
  | inr apart ↦ elim (cases_Bool (p q)) [
    | inl e ↦ rw (e, apart) (among-filter p place places)
    | inr e ↦ rw (e, apart) (among-filter p place places)
  ]
]

pub stored-kept : (place : Place) → is_stored_place place ≡ (is_stored place && is_ok (find_data_of place))
stored-kept place =
    ap (list_any (same_place place)) (sym stored-listed)
    ∙ among-filter is_stored place data_places
    ∙ ap (λ (b : Bool). is_stored place && b) (any-ext (same_place place) (is_at place) (same-sym place) data_places ∙ sym (data-listed place))
