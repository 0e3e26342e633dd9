-- The rows of a state that is regained, place by place.
use Rattle.std.proofs.Common.{◌≡◌, ◌∙◌, refl, sym, ap, subst, ℕ, inl, inr, ◌&&◌, not, nat_le, Bool, true, false, List, [], ◌∷◌, ◌++◌, filter, arith}
use Rattle.std.proofs.lemmas.Bool.{and_from, and_parts, both_ways, cases_Bool, false_from_ne_true, not-true, or_left, or_right, or_parts}
use Rattle.std.proofs.lemmas.Bool.Decides.{nat_tests}
use Rattle.std.proofs.lemmas.List.{append-nil}
use Rattle.std.specs.List.{flat_map, list_all, list_any}
use Rattle.mt_model.specs.rows.Order.{are_ascending, ascend_after, stands_before}
use Rattle.mt_model.specs.rows.Sight.{same_place, stands_at}
use Rattle.mt_model.specs.rows.Stored.{stored_places}
use Rattle.mt_model.specs.texts.Config.{none_alike}
use Rattle.mt_model.specs.declared.rows.place.Place.{Place}
use Rattle.mt_model.specs.declared.rows.place.Row.{Row}
use Rattle.mt_meta.specs.Places.{ascend, ascend_from}
use Rattle.mt_meta.specs.Stored.{first_rows}
use Rattle.mt_meta.specs.Table.{attributes_of, clusters_of, endpoints, extensions_of, globals}
use Rattle.mt_regained.specs.Regained.{or_first, rows_at, rows_with}
use Rattle.mt_regained.proofs.Lists.{IsIn, all-append, all-filter, all-kept, filter-append, filter-none, filter-stronger}
use Rattle.mt_regained.proofs.Places.{place-same}
use Rattle.mt_regained.proofs.Read.{place-itself}
use Rattle.mt_regained.proofs.Rises.{rise, rise_filter}

pub places_differ : none_alike same_place stored_places ≡ true
places_differ = refl

places_ascend : ascend stored_places ≡ true
places_ascend = refl

abbrev pub its_fabric : Row → ℕ
its_fabric row = row.fabric

first_rise : rise Row its_fabric 0 first_rows ≡ true
unfolding endpoints clusters_of attributes_of globals extensions_of
first_rise = refl

-- Rows of one place.

or_first_there : (place : Place) (rows : List Row) → list_all (stands_at place) rows ≡ true → list_all (stands_at place) (or_first place rows) ≡ true
or_first_there place [] all = all-kept (stands_at place) first_rows
or_first_there place (row ∷ rows) all = all

rows_there : (kept : List Row) (place : Place) → list_all (stands_at place) (rows_at kept place) ≡ true
rows_there kept place = or_first_there place (filter (stands_at place) kept) (all-kept (stands_at place) kept)

or_first_rise : (place : Place) (rows : List Row) → rise Row its_fabric 0 rows ≡ true → rise Row its_fabric 0 (or_first place rows) ≡ true
or_first_rise place [] up = rise_filter Row its_fabric (stands_at place) 0 first_rows first_rise
or_first_rise place (row ∷ rows) up = up

or_first_all : (p : Row → Bool) (place : Place) (rows : List Row) → list_all p first_rows ≡ true → list_all p rows ≡ true → list_all p (or_first place rows) ≡ true
or_first_all p place [] first all = all-filter p (stands_at place) first_rows first
or_first_all p place (row ∷ rows) first all = all

-- what holds of the first rows and of those that are kept, holds of all
pub all_rows : (p : Row → Bool) (kept : List Row) → list_all p first_rows ≡ true → list_all p kept ≡ true → list_all p (rows_with kept) ≡ true
all_rows p kept first all = on stored_places
  where
    on : (places : List Place) → list_all p (flat_map (rows_at kept) places) ≡ true
    on [] = refl
    on (place ∷ places) = all-append p (rows_at kept place) (flat_map (rows_at kept) places) (or_first_all p place (filter (stands_at place) kept) first (all-filter p (stands_at place) kept all)) (on places)

-- Rows that pass a test of one place.

module _ (kept : List Row) (place : Place) (test : Row → Bool) (implied : (row : Row) → test row ≡ true → stands_at place row ≡ true) where
  elsewhere : (one : Place) → same_place place one ≡ false → filter test (rows_at kept one) ≡ []
  elsewhere one other = filter-none (stands_at one) test fails (rows_at kept one) (rows_there kept one)
    where
      fails : (row : Row) → stands_at one row ≡ true → test row ≡ false
      fails row there = false_from_ne_true (test row) (λ passes.
          let here : row.place ≡ place = place-same row.place place (implied row passes) in
          both_ways (same_place place one) other (subst (λ (p : Place). same_place p one ≡ true) here there))

  pub absent : (places : List Place) → list_any (same_place place) places ≡ false → filter test (flat_map (rows_at kept) places) ≡ []
  absent [] none = refl
  absent (one ∷ places) none =
      let both = or_parts (same_place place one) (list_any (same_place place) places) none in
      filter-append test (rows_at kept one) (flat_map (rows_at kept) places) ∙ (λ i. elsewhere one both.0 i ++ absent places both.1 i)

  at_first : (one : Place) (places : List Place) → none_alike same_place (one ∷ places) ≡ true → place ≡ one → filter test (flat_map (rows_at kept) (one ∷ places)) ≡ filter test (rows_at kept place)
  at_first one places differ is =
      let both = and_parts (not (list_any (same_place one) places)) (none_alike same_place places) differ in
      let none : list_any (same_place place) places ≡ false = subst (λ (p : Place). list_any (same_place p) places ≡ false) (sym is) (not-true (list_any (same_place one) places) both.0) in
      filter-append test (rows_at kept one) (flat_map (rows_at kept) places)
      ∙ (λ i. filter test (rows_at kept (sym is i)) ++ absent places none i)
      ∙ append-nil (filter test (rows_at kept place))

  pub present : (places : List Place) → none_alike same_place places ≡ true → IsIn place places → filter test (flat_map (rows_at kept) places) ≡ filter test (rows_at kept place)
  present [] differ there = absurd there
  present (one ∷ places) differ (inl is) = at_first one places differ is
  present (one ∷ places) differ (inr later) = elim (cases_Bool (same_place place one)) [
    | inl same ↦ at_first one places differ (place-same place one same)
    | inr other ↦
        let both = and_parts (not (list_any (same_place one) places)) (none_alike same_place places) differ in
        filter-append test (rows_at kept one) (flat_map (rows_at kept) places)
        ∙ ap (λ (l : List Row). l ++ filter test (flat_map (rows_at kept) places)) (elsewhere one other)
        ∙ present places both.1 later
  ]

  of_kept : (rows : List Row) → filter (stands_at place) kept ≡ rows → filter test first_rows ≡ [] → filter test (or_first place rows) ≡ filter test kept
  of_kept [] is none =
      filter-stronger (stands_at place) test implied first_rows ∙ none
      ∙ ap (filter test) (sym is) ∙ filter-stronger (stands_at place) test implied kept
  of_kept (row ∷ rows) is none = ap (filter test) (sym is) ∙ filter-stronger (stands_at place) test implied kept

  -- where no first row passes, those that pass are those that are kept
  pub kept_there : IsIn place stored_places → filter test first_rows ≡ [] → filter test (rows_with kept) ≡ filter test kept
  kept_there there none = present stored_places places_differ there ∙ of_kept (filter (stands_at place) kept) refl none

-- The order of rows.

module _ (kept : List Row) (up : rise Row its_fabric 0 kept ≡ true) where
  -- whether these may stand behind each row of a place
  abbrev Follow : Place → List Row → Type 0
  Follow place rows = (row : Row) → row.place ≡ place → ascend_after row rows ≡ true

  then_rows : (place : Place) (rows rest : List Row) → list_all (stands_at place) rows ≡ true → Follow place rest → (row : Row) → row.place ≡ place → rise Row its_fabric row.fabric rows ≡ true → ascend_after row (rows ++ rest) ≡ true
  then_rows place [] rest all follow row at rises = follow row at
  then_rows place (next ∷ rows) rest all follow row at rises =
      let both = and_parts (stands_at place next) (list_all (stands_at place) rows) all in
      let order = and_parts (nat_le row.fabric next.fabric) (rise Row its_fabric next.fabric rows) rises in
      let there : next.place ≡ place = place-same next.place place both.0 in
      let same : same_place row.place next.place ≡ true = subst (λ (p : Place). same_place p next.place ≡ true) (there ∙ sym at) (place-itself next.place) in
      and_from _ _ (or_right (stands_before row.place next.place) (same_place row.place next.place && nat_le row.fabric next.fabric) (and_from _ _ same order.0)) (then_rows place rows rest both.1 follow next there order.1)

  before_then : (p q r : Place) → stands_before p q ≡ true → stands_before q r ≡ true → stands_before p r ≡ true
  before_then p q r first second = grind (arith, nat_tests, first, second)

  ascend_lower : (p q : Place) (places : List Place) → stands_before p q ≡ true → ascend_from q places ≡ true → ascend_from p places ≡ true
  ascend_lower p q [] before ascends = refl
  ascend_lower p q (r ∷ places) before ascends =
      let both = and_parts (stands_before q r) (ascend_from r places) ascends in
      and_from _ _ (before_then p q r before both.0) both.1

  rises_at : (place : Place) → rise Row its_fabric 0 (rows_at kept place) ≡ true
  rises_at place = or_first_rise place (filter (stands_at place) kept) (rise_filter Row its_fabric (stands_at place) 0 kept up)

  -- the rows of a place behind a row of a place before it
  behind : (place one : Place) (rows rest : List Row) → stands_before place one ≡ true → list_all (stands_at one) rows ≡ true → rise Row its_fabric 0 rows ≡ true → Follow one rest → Follow place rest → Follow place (rows ++ rest)
  behind place one [] rest before all rises later follow row at = follow row at
  behind place one (next ∷ rows) rest before all rises later follow row at =
      let both = and_parts (stands_at one next) (list_all (stands_at one) rows) all in
      let there : next.place ≡ one = place-same next.place one both.0 in
      let first : stands_before row.place next.place ≡ true = (λ i. stands_before (at i) (there i)) ∙ before in
      and_from _ _ (or_left (stands_before row.place next.place) (same_place row.place next.place && nat_le row.fabric next.fabric) first)
      (then_rows one rows rest both.1 later next there (and_parts (nat_le 0 next.fabric) (rise Row its_fabric next.fabric rows) rises).1)

  all_behind : (place : Place) (places : List Place) → ascend_from place places ≡ true → Follow place (flat_map (rows_at kept) places)
  all_behind place [] ascends = λ row at. refl
  all_behind place (one ∷ places) ascends =
      let both = and_parts (stands_before place one) (ascend_from one places) ascends in
      behind place one (rows_at kept one) (flat_map (rows_at kept) places) both.0 (rows_there kept one) (rises_at one) (all_behind one places both.1)
      (all_behind place places (ascend_lower place one places both.0 both.1))

  begun : (place : Place) (rows rest : List Row) → list_all (stands_at place) rows ≡ true → rise Row its_fabric 0 rows ≡ true → Follow place rest → are_ascending rest ≡ true → are_ascending (rows ++ rest) ≡ true
  begun place [] rest all rises follow ascends = ascends
  begun place (row ∷ rows) rest all rises follow ascends =
      let both = and_parts (stands_at place row) (list_all (stands_at place) rows) all in
      then_rows place rows rest both.1 follow row (place-same row.place place both.0) (and_parts (nat_le 0 row.fabric) (rise Row its_fabric row.fabric rows) rises).1

  rest_ascends : (place : Place) (places : List Place) → ascend_from place places ≡ true → ascend places ≡ true
  rest_ascends place [] ascends = refl
  rest_ascends place (one ∷ places) ascends = (and_parts (stands_before place one) (ascend_from one places) ascends).1

  all_ascend : (places : List Place) → ascend places ≡ true → are_ascending (flat_map (rows_at kept) places) ≡ true
  all_ascend [] ascends = refl
  all_ascend (place ∷ places) ascends = begun place (rows_at kept place) (flat_map (rows_at kept) places) (rows_there kept place) (rises_at place) (all_behind place places ascends) (all_ascend places (rest_ascends place places ascends))

  pub rows_ascend : are_ascending (rows_with kept) ≡ true
  rows_ascend = all_ascend stored_places places_ascend
