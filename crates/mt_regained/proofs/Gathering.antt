-- Rows that ascend and pass a test are those of one place after the other that pass it.
use Rattle.std.proofs.Common.{◌≡◌, ◌∙◌, refl, sym, ap, subst, inl, inr, ◌&&◌, nat_le, Bool, true, false, List, [], ◌∷◌, ◌++◌, filter, arith}
use Rattle.std.proofs.lemmas.Bool.{and_from, and_parts, both_ways, cases_Bool, false_from_ne_true, or_cases}
use Rattle.std.proofs.lemmas.Bool.Decides.{nat_tests}
use Rattle.std.specs.List.{flat_map, list_all}
use Rattle.mt_meta.specs.Places.{ascend, ascend_from}
use Rattle.mt_model.specs.rows.Order.{are_ascending, ascend_after, may_follow, stands_before}
use Rattle.mt_model.specs.rows.Sight.{same_place, stands_at}
use Rattle.mt_model.specs.declared.rows.place.Place.{Place}
use Rattle.mt_model.specs.declared.rows.place.Row.{Row}
use Rattle.mt_regained.proofs.Lists.{Each, IsIn, each-all, filter-none}
use Rattle.mt_regained.proofs.Places.{place-same}
use Rattle.mt_regained.proofs.Read.{place-itself}

filter_take : {X : Type 0} (keep : X → Bool) (x : X) (xs : List X) → keep x ≡ true → filter keep (x ∷ xs) ≡ x ∷ filter keep xs
filter_take keep x xs kept = rw kept refl

filter_skip : {X : Type 0} (keep : X → Bool) (x : X) (xs : List X) → keep x ≡ false → filter keep (x ∷ xs) ≡ filter keep xs
filter_skip keep x xs gone = rw gone refl

-- The order of places.

before_then : (p q r : Place) → stands_before p q ≡ true → stands_before q r ≡ true → stands_before p r ≡ true
before_then p q r first second = grind (arith, nat_tests, first, second)

not_before : (p : Place) → stands_before p p ≡ false
not_before p = grind (arith, nat_tests)

differs_from : (p q : Place) → stands_before p q ≡ true → same_place p q ≡ false
differs_from p q before = false_from_ne_true (same_place p q) (λ same. both_ways (stands_before p p) (not_before p) (subst (λ (r : Place). stands_before p r ≡ true) (sym (place-same p q same)) before))

before_differs : (p q : Place) → stands_before p q ≡ true → same_place q p ≡ false
before_differs p q before = false_from_ne_true (same_place q p) (λ same. both_ways (stands_before p p) (not_before p) (subst (λ (r : Place). stands_before p r ≡ true) (place-same q p same) before))

above_in : (place : Place) (places : List Place) (one : Place) → ascend_from place places ≡ true → IsIn one places → stands_before place one ≡ true
above_in place [] one up there = absurd there
above_in place (next ∷ places) one up (inl is) = subst (λ (p : Place). stands_before place p ≡ true) (sym is) (and_parts (stands_before place next) (ascend_from next places) up).0
above_in place (next ∷ places) one up (inr later) =
    let both = and_parts (stands_before place next) (ascend_from next places) up in
    before_then place next one both.0 (above_in next places one both.1 later)

rest_ascends : (place : Place) (places : List Place) → ascend_from place places ≡ true → ascend places ≡ true
rest_ascends place [] up = refl
rest_ascends place (next ∷ places) up = (and_parts (stands_before place next) (ascend_from next places) up).1

-- Rows behind a place.

abbrev is_behind : Place → Row → Bool
is_behind place row = stands_before place row.place

next_behind : (place : Place) (row next : Row) → is_behind place row ≡ true → may_follow row next ≡ true → is_behind place next ≡ true
next_behind place row next before follows = elim (or_cases (stands_before row.place next.place) (same_place row.place next.place && nat_le row.fabric next.fabric) follows) [
  | inl later ↦ before_then place row.place next.place before later
  | inr at ↦ subst (λ (p : Place). stands_before place p ≡ true) (place-same row.place next.place (and_parts (same_place row.place next.place) (nat_le row.fabric next.fabric) at).0) before
]

all_behind : (place : Place) (row : Row) (rows : List Row) → is_behind place row ≡ true → ascend_after row rows ≡ true → list_all (is_behind place) rows ≡ true
all_behind place row [] before up = refl
all_behind place row (next ∷ rows) before up =
    let both = and_parts (may_follow row next) (ascend_after next rows) up in
    let on = next_behind place row next before both.0 in
    and_from _ _ on (all_behind place next rows on both.1)

rest_rises : (row : Row) (rows : List Row) → ascend_after row rows ≡ true → are_ascending rows ≡ true
rest_rises row [] up = refl
rest_rises row (next ∷ rows) up = (and_parts (may_follow row next) (ascend_after next rows) up).1

module _ (test : Row → Bool) where
  -- a row of a place that passes
  abbrev pub passes_at : Place → Row → Bool
  passes_at place row = stands_at place row && test row

  abbrev pub of_places : List Row → List Place → List Row
  of_places rows places = flat_map (λ (place : Place). filter (passes_at place) rows) places

  -- where it passes, its place is among these
  abbrev pub IsAmong : List Place → Row → Type 0
  IsAmong places row = test row ≡ true → IsIn row.place places

  fails_at : (row : Row) (place : Place) → test row ≡ false → passes_at place row ≡ false
  fails_at row place fails = false_from_ne_true (passes_at place row) (λ its. both_ways (test row) fails (and_parts (stands_at place row) (test row) its).1)

  apart : (row : Row) (place : Place) → same_place row.place place ≡ false → passes_at place row ≡ false
  apart row place other = ap (λ (b : Bool). b && test row) other

  none_passes : (rows : List Row) → Each (IsAmong []) rows → filter test rows ≡ []
  none_passes [] each = refl
  none_passes (row ∷ rows) each = elim (cases_Bool (test row)) [
    | inl passes ↦ absurd (each.0 passes)
    | inr fails ↦ filter_skip test row rows fails ∙ none_passes rows each.1
  ]

  none_of_places : (places : List Place) → of_places [] places ≡ []
  none_of_places [] = refl
  none_of_places (place ∷ places) = none_of_places places

  without_row : (row : Row) (rows : List Row) (places : List Place) → Each (λ place. passes_at place row ≡ false) places → of_places (row ∷ rows) places ≡ of_places rows places
  without_row row rows [] each = refl
  without_row row rows (place ∷ places) each = λ i. filter_skip (passes_at place) row rows each.0 i ++ without_row row rows places each.1 i

  without_place : (place : Place) (places : List Place) (rows : List Row) → list_all (is_behind place) rows ≡ true → Each (IsAmong (place ∷ places)) rows → Each (IsAmong places) rows
  without_place place places [] behind each = refl
  without_place place places (row ∷ rows) behind each =
      let both = and_parts (is_behind place row) (list_all (is_behind place) rows) behind in (
        λ passes. elim (each.0 passes) [
          | inl is ↦ absurd (both_ways (stands_before place place) (not_before place) (subst (λ (p : Place). stands_before place p ≡ true) is both.0))
          | inr later ↦ later
        ],
        without_place place places rows both.1 each.1,
      )

  pub gathered : (places : List Place) (rows : List Row) → ascend places ≡ true → are_ascending rows ≡ true → Each (IsAmong places) rows → filter test rows ≡ of_places rows places
  gathered [] rows up rises each = none_passes rows each
  gathered (place ∷ places) [] up rises each = sym (none_of_places (place ∷ places))
  gathered (place ∷ places) (row ∷ rows) up rises each = elim (cases_Bool (test row)) [
    | inr fails ↦
        filter_skip test row rows fails
        ∙ gathered (place ∷ places) rows up (rest_rises row rows rises) each.1
        ∙ sym (without_row row rows (place ∷ places) (each-all (λ one. passes_at one row ≡ false) (place ∷ places) (λ one there. fails_at row one fails)))
    | inl passes ↦ elim (each.0 passes) [
      | inl is ↦
          let here : passes_at place row ≡ true = and_from _ _ (ap (λ (p : Place). same_place p place) is ∙ place-itself place) passes in
          let others : Each (λ one. passes_at one row ≡ false) places =
          each-all (λ one. passes_at one row ≡ false) places (λ one there. apart row one (ap (λ (p : Place). same_place p one) is ∙ differs_from place one (above_in place places one up there))) in
          filter_take test row rows passes
          ∙ ap (λ (l : List Row). row ∷ l) (gathered (place ∷ places) rows up (rest_rises row rows rises) each.1)
          ∙ (λ i. sym (filter_take (passes_at place) row rows here) i ++ sym (without_row row rows places others) i)
      | inr later ↦
          let before : is_behind place row ≡ true = above_in place places row.place up later in
          let behind : list_all (is_behind place) (row ∷ rows) ≡ true = and_from _ _ before (all_behind place row rows before rises) in
          let none : filter (passes_at place) (row ∷ rows) ≡ [] = filter-none (is_behind place) (passes_at place) (λ one its. apart one place (before_differs place one.place its)) (row ∷ rows) behind in
          gathered places (row ∷ rows) (rest_ascends place places up) rises (without_place place places (row ∷ rows) behind each)
          ∙ ap (λ (l : List Row). l ++ of_places (row ∷ rows) places) (sym none)
    ]
  ]
