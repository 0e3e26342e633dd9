-- Rows whose key sets are masked: those that are filtered by place and fabric, those that are set, and those of another place.
use Rattle.std.proofs.Common.{◌≡◌, ℕ, ◌==◌, ◌&&◌, inl, inr, Bool, true, false, List, [], ◌∷◌, ◌++◌, refl, sym, ap, ◌∙◌, filter, map, if◌then◌else◌}
use Rattle.std.proofs.lemmas.Bool.{and_parts, cases_Bool, eqb-true}
use Rattle.std.proofs.lemmas.List.{map-append}
use Rattle.mt_tlv.specs.declared.value.Value.{Value}
use Rattle.mt_groupkeys.specs.Sets.{values_of}
use Rattle.mt_model.specs.rows.Order.{row_at}
use Rattle.mt_model.specs.rows.Setting.{is_above, is_at, is_below, with_rows}
use Rattle.mt_model.specs.rows.Sight.{same_place, stands_at}
use Rattle.mt_model.specs.tables.KeySets.{key_sets}
use Rattle.mt_model.specs.declared.rows.place.Place.{Place}
use Rattle.mt_model.specs.declared.rows.place.Row.{Row}
use Rattle.mt_masks.specs.Masking.{masked_row, masked_set, masked_value}
use Rattle.mt_masks.proofs.Lists.{filter_changed, filter_spared}

pub place_same : (p q : Place) → same_place p q ≡ true → p ≡ q
place_same p q same =
    let outer = and_parts (p.endpoint == q.endpoint) (p.cluster == q.cluster && p.leaf == q.leaf) same in
    let inner = and_parts (p.cluster == q.cluster) (p.leaf == q.leaf) outer.1 in
    let endpoint = eqb-true p.endpoint q.endpoint outer.0 in
    let cluster = eqb-true p.cluster q.cluster inner.0 in
    let leaf = eqb-true p.leaf q.leaf inner.1 in
    λ i. record { endpoint = endpoint i; cluster = cluster i; leaf = leaf i }

-- Rows of other places stay.

pub value_elsewhere : (place : Place) (value : Value) → same_place place key_sets ≡ false → masked_value place value ≡ value
value_elsewhere place value elsewhere = ap (λ (b : Bool). if b then masked_set value else value) elsewhere

pub row_elsewhere : (row : Row) → same_place row.place key_sets ≡ false → masked_row row ≡ row
row_elsewhere row elsewhere = ap (λ (value : Value). record row { value = value }) (value_elsewhere row.place row.value elsewhere)

there_elsewhere : (place : Place) (row : Row) → same_place place key_sets ≡ false → same_place row.place place ≡ true → masked_row row ≡ row
there_elsewhere place row elsewhere there = row_elsewhere row (ap (λ (p : Place). same_place p key_sets) (place_same row.place place there) ∙ elsewhere)

pub standing_elsewhere : (place : Place) → same_place place key_sets ≡ false → (rows : List Row) → filter (stands_at place) (map masked_row rows) ≡ filter (stands_at place) rows
standing_elsewhere place elsewhere rows = filter_spared masked_row (stands_at place) (λ row. refl) (λ row there. there_elsewhere place row elsewhere there) rows

pub set_elsewhere : (place : Place) (fabric : ℕ) → same_place place key_sets ≡ false → (rows : List Row) → filter (is_at place fabric) (map masked_row rows) ≡ filter (is_at place fabric) rows
set_elsewhere place fabric elsewhere rows =
    filter_spared masked_row (is_at place fabric) (λ row. refl) (λ row at. there_elsewhere place row elsewhere (and_parts (same_place row.place place) (row.fabric == fabric) at).0) rows

-- Rows that are set.

new_masked : (place : Place) (fabric : ℕ) (given : List Value) → map (row_at place fabric) (map (masked_value place) given) ≡ map masked_row (map (row_at place fabric) given)
new_masked place fabric [] = refl
new_masked place fabric (value ∷ given) = ap (λ (rows : List Row). masked_row (row_at place fabric value) ∷ rows) (new_masked place fabric given)

pub rows_set : (place : Place) (fabric : ℕ) (given : List Value) (rows : List Row) → with_rows place fabric (map (masked_value place) given) (map masked_row rows) ≡ map masked_row (with_rows place fabric given rows)
rows_set place fabric given rows =
    let below = filter_changed masked_row (is_below place fabric) (λ row. refl) rows in
    let above = filter_changed masked_row (is_above place fabric) (λ row. refl) rows in
    let new = new_masked place fabric given in
    (λ i. below i ++ (new i ++ above i))
    ∙ sym (map-append masked_row (filter (is_below place fabric) rows) (map (row_at place fabric) given ++ filter (is_above place fabric) rows)
    ∙ ap (λ (xs : List Row). map masked_row (filter (is_below place fabric) rows) ++ xs) (map-append masked_row (map (row_at place fabric) given) (filter (is_above place fabric) rows)))

-- The key sets of a fabric.

here_masked : (row : Row) → same_place row.place key_sets ≡ true → (masked_row row).value ≡ masked_set row.value
here_masked row here = ap (λ (b : Bool). if b then masked_set row.value else row.value) here

sets_masked : (fabric : ℕ) (rows : List Row) → values_of (map masked_row (filter (is_at key_sets fabric) rows)) ≡ map masked_set (values_of (filter (is_at key_sets fabric) rows))
sets_masked fabric [] = refl
sets_masked fabric (row ∷ rows) = elim (cases_Bool (is_at key_sets fabric row)) [
  | inl at ↦ rw at (λ i. here_masked row (and_parts (same_place row.place key_sets) (row.fabric == fabric) at).0 i ∷ sets_masked fabric rows i)
  | inr not_at ↦ rw not_at (sets_masked fabric rows)
]

pub own_masked : (fabric : ℕ) (rows : List Row) → values_of (filter (is_at key_sets fabric) (map masked_row rows)) ≡ map masked_set (values_of (filter (is_at key_sets fabric) rows))
own_masked fabric rows = ap values_of (filter_changed masked_row (is_at key_sets fabric) (λ row. refl) rows) ∙ sets_masked fabric rows
