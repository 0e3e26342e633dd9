-- In a valid state the rows of WindowStatus and of WindowEnd are those of its window.
use Rattle.std.proofs.Common.{◌≡◌, ℕ, ◌==◌, ◌&&◌, ◌∙◌, inl, inr, Bool, true, List, [], ◌∷◌, length, refl, sym, ap, filter, subst, unwrap_or}
use Rattle.std.proofs.lemmas.Bool.{and_from, and_parts, cases_Bool, eqb-true, or_cases}
use Rattle.std.proofs.lemmas.List.Sums.{length-filter}
use Rattle.std.specs.List.{count_by, list_all, list_any}
use Rattle.mt_tlv.specs.Scalars.{unsigned_in}
use Rattle.mt_tlv.specs.View.{tree}
use Rattle.mt_tlv.specs.declared.value.Value.{Value}
use Rattle.mt_tlv.specs.declared.value.Value.TheVariants as values
use Rattle.mt_admin.specs.Windows.{nullable_value, window_at, window_end}
use Rattle.mt_meta.specs.Finding.{find_data_of}
use Rattle.mt_meta.specs.Forms.{is_of_kind}
use Rattle.mt_meta.specs.Places.{all_places}
use Rattle.mt_meta.specs.Stored.{is_stored}
use Rattle.mt_meta.specs.Table.{attributes_of, clusters_of, endpoints, extensions_of, globals}
use Rattle.mt_meta.specs.declared.meta.Kind.TheVariants as kinds
use Rattle.mt_model.specs.rows.Order.{row_at}
use Rattle.mt_model.specs.rows.Shown.{first_value}
use Rattle.mt_model.specs.rows.Sight.{same_place, stands_at}
use Rattle.mt_model.specs.declared.node.state.NodeState.{NodeState}
use Rattle.mt_model.specs.declared.rows.place.Place.{Place}
use Rattle.mt_model.specs.declared.rows.place.Row.{Row}
use Rattle.mt_model.specs.declared.tables.fabric.Fabric.{Fabric}
use Rattle.mt_machine.specs.State.{IsValid, has_one_row, is_row, is_row_at, stands_once}
use Rattle.mt_machine.specs.Step.{rows_of_nobody}
use Rattle.mt_windows.specs.Laws.{Shows}
use Rattle.mt_windows.specs.Window.{window_in}
use Rattle.mt_windows.proofs.Rows.{filter-stronger, mine, place-itself, place-same}

-- Lists.

all-kept : {X : Type 0} (p : X → Bool) (xs : List X) → list_all p (filter p xs) ≡ true
all-kept p [] = refl
all-kept p (x ∷ xs) = elim (cases_Bool (p x)) [ inl is ↦ rw (is, is) (all-kept p xs) | inr is_not ↦ rw is_not (all-kept p xs) ]

all-filter : {X : Type 0} (p r : X → Bool) (xs : List X) → list_all r xs ≡ true → list_all r (filter p xs) ≡ true
all-filter p r [] all = refl
all-filter p r (x ∷ xs) all =
    let both = and_parts (r x) (list_all r xs) all in
    elim (cases_Bool (p x)) [ inl is ↦ rw is (and_from _ _ both.0 (all-filter p r xs both.1)) | inr is_not ↦ rw is_not (all-filter p r xs both.1) ]

-- what passes at all places passes at one among them
at_place : (test : Place → Bool) (q : Place) (places : List Place) → list_all test places ≡ true → list_any (same_place q) places ≡ true → test q ≡ true
at_place test q [] all there = absurd cc
at_place test q (place ∷ places) all there =
    let both = and_parts (test place) (list_all test places) all in
    elim (or_cases (same_place q place) (list_any (same_place q) places) there) [
      | inl here ↦ subst (λ (p : Place). test p ≡ true) (sym (place-same q place here)) both.0
      | inr later ↦ at_place test q places both.1 later
    ]

-- One row.

record IsOne (fabrics : List Fabric) (q : Place) (rows : List Row) : Type 0 where
  row : Row
  alone : rows ≡ row ∷ []
  there : row.place ≡ q
  form : is_row fabrics row ≡ true

one_of : (fabrics : List Fabric) (q : Place) (rows : List Row) → length rows ≡ 1 → list_all (stands_at q) rows ≡ true → list_all (is_row fabrics) rows ≡ true → IsOne fabrics q rows
one_of fabrics q [] one there forms = absurd cc
one_of fabrics q (row ∷ []) one there forms = record { row = row; alone = refl; there = place-same row.place q (and_parts (stands_at q row) true there).0; form = (and_parts (is_row fabrics row) true forms).0 }
one_of fabrics q (row ∷ next ∷ rows) one there forms = absurd cc

one_row : (s : NodeState) (q : Place) → IsValid s → list_any (same_place q) (filter has_one_row all_places) ≡ true → IsOne s.fabrics q (filter (stands_at q) s.rows)
one_row s q valid single =
    let once : stands_once s.rows q ≡ true = at_place (stands_once s.rows) q (filter has_one_row all_places) valid.rows_stand single in
    one_of s.fabrics q (filter (stands_at q) s.rows) (length-filter (stands_at q) s.rows ∙ eqb-true (count_by (stands_at q) s.rows) 1 once)
    (all-kept (stands_at q) s.rows) (all-filter (stands_at q) (is_row s.fabrics) s.rows valid.row_forms)

status_single : list_any (same_place (window_at 0)) (filter has_one_row all_places) ≡ true
unfolding is_stored attributes_of clusters_of endpoints extensions_of globals
status_single = refl

end_single : list_any (same_place (window_at window_end)) (filter has_one_row all_places) ≡ true
unfolding is_stored attributes_of clusters_of endpoints extensions_of globals
end_single = refl

-- Its value.

abbrev number_in : Value → ℕ
number_in value = unwrap_or (unsigned_in (tree value)) 0

status_form : (fabric : ℕ) (value : Value) → is_of_kind kinds.Uint 0 0 fabric value ≡ true → value ≡ values.Uint (number_in value)
status_form fabric (values.Uint n) is = refl
status_form fabric value is = absurd cc

end_form : (fabric : ℕ) (value : Value) → is_of_kind kinds.NullableUint 0 0 fabric value ≡ true → value ≡ nullable_value (unsigned_in (tree value))
end_form fabric values.Null is = refl
end_form fabric (values.Uint n) is = refl
end_form fabric value is = absurd cc

module _ (fabrics : List Fabric) (row : Row) where
  status_at : is_row_at fabrics row (find_data_of (window_at 0)) ≡ true → (is_of_kind kinds.Uint 0 0 row.fabric row.value && row.fabric == 0) ≡ true
  unfolding attributes_of clusters_of endpoints extensions_of globals
  status_at is = is

  end_at : is_row_at fabrics row (find_data_of (window_at window_end)) ≡ true → (is_of_kind kinds.NullableUint 0 0 row.fabric row.value && row.fabric == 0) ≡ true
  unfolding attributes_of clusters_of endpoints extensions_of globals
  end_at is = is

-- The rows of nobody at a place with one row, which is nobody's.

module _ (s : NodeState) (q : Place) (one : IsOne s.fabrics q (filter (stands_at q) s.rows)) (nobody : one.row.fabric ≡ 0) where
  row_itself : one.row ≡ row_at q 0 one.row.value
  row_itself = λ i. record { place = one.there i; fabric = nobody i; value = one.row.value }

  there_alone : filter (stands_at q) s.rows ≡ row_at q 0 one.row.value ∷ []
  there_alone = one.alone ∙ ap (λ (row : Row). row ∷ []) row_itself

  mine_alone : rows_of_nobody s q ≡ row_at q 0 one.row.value ∷ []
  mine_alone =
      sym (filter-stronger (mine q) (stands_at q) (λ row is. (and_parts (same_place row.place q) (row.fabric == 0) is).0) s.rows)
      ∙ ap (filter (mine q)) there_alone ∙ mine_there
    where
      mine_there : filter (mine q) (row_at q 0 one.row.value ∷ []) ≡ row_at q 0 one.row.value ∷ []
      mine_there = rw (place-itself q) refl

status_stored : is_stored (window_at 0) ≡ true
unfolding is_stored attributes_of clusters_of endpoints extensions_of globals
status_stored = refl

end_stored : is_stored (window_at window_end) ≡ true
unfolding is_stored attributes_of clusters_of endpoints extensions_of globals
end_stored = refl

module _ (s : NodeState) (valid : IsValid s) where
  first_one : IsOne s.fabrics (window_at 0) (filter (stands_at (window_at 0)) s.rows)
  first_one = one_row s (window_at 0) valid status_single

  first_form : ((is_of_kind kinds.Uint 0 0 first_one.row.fabric first_one.row.value) ≡ true) × ((first_one.row.fabric == 0) ≡ true)
  first_form =
      and_parts (is_of_kind kinds.Uint 0 0 first_one.row.fabric first_one.row.value) (first_one.row.fabric == 0)
      (status_at s.fabrics first_one.row (subst (λ (p : Place). is_row_at s.fabrics first_one.row (find_data_of p) ≡ true) first_one.there (and_parts (is_stored first_one.row.place) _ first_one.form).1))

  last_one : IsOne s.fabrics (window_at window_end) (filter (stands_at (window_at window_end)) s.rows)
  last_one = one_row s (window_at window_end) valid end_single

  last_form : ((is_of_kind kinds.NullableUint 0 0 last_one.row.fabric last_one.row.value) ≡ true) × ((last_one.row.fabric == 0) ≡ true)
  last_form =
      and_parts (is_of_kind kinds.NullableUint 0 0 last_one.row.fabric last_one.row.value) (last_one.row.fabric == 0)
      (end_at s.fabrics last_one.row (subst (λ (p : Place). is_row_at s.fabrics last_one.row (find_data_of p) ≡ true) last_one.there (and_parts (is_stored last_one.row.place) _ last_one.form).1))

  first_mine : rows_of_nobody s (window_at 0) ≡ row_at (window_at 0) 0 first_one.row.value ∷ []
  first_mine = mine_alone s (window_at 0) first_one (eqb-true first_one.row.fabric 0 first_form.1)

  last_mine : rows_of_nobody s (window_at window_end) ≡ row_at (window_at window_end) 0 last_one.row.value ∷ []
  last_mine = mine_alone s (window_at window_end) last_one (eqb-true last_one.row.fabric 0 last_form.1)

  first_value_is : first_one.row.value ≡ values.Uint (window_in s).status
  first_value_is = status_form first_one.row.fabric first_one.row.value first_form.0 ∙ ap (λ (rows : List Row). values.Uint (number_in (first_value rows))) (sym first_mine)

  last_value_is : last_one.row.value ≡ nullable_value (window_in s).until
  last_value_is = end_form last_one.row.fabric last_one.row.value last_form.0 ∙ ap (λ (rows : List Row). nullable_value (unsigned_in (tree (first_value rows)))) (sym last_mine)

  -- the rows of nobody at WindowStatus
  pub nobodys_status : rows_of_nobody s (window_at 0) ≡ row_at (window_at 0) 0 (values.Uint (window_in s).status) ∷ []
  nobodys_status = first_mine ∙ ap (λ (value : Value). row_at (window_at 0) 0 value ∷ []) first_value_is

  pub valid_shows : Shows s (window_in s)
  valid_shows = record {
    status = rw status_stored (there_alone s (window_at 0) first_one (eqb-true first_one.row.fabric 0 first_form.1) ∙ ap (λ (value : Value). row_at (window_at 0) 0 value ∷ []) first_value_is);
    until = rw end_stored (there_alone s (window_at window_end) last_one (eqb-true last_one.row.fabric 0 last_form.1) ∙ ap (λ (value : Value). row_at (window_at window_end) 0 value ∷ []) last_value_is);
  }
