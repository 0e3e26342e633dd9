-- The rows of all stored places, one place after the other, are all rows.
use Rattle.std.proofs.Common.{◌≡◌, inl, inr, Bool, true, false, ◌&&◌, List, [], ◌∷◌, ◌++◌, refl, sym, ap, ◌∙◌, filter, arith, Result, Ok, Err, is_ok, nat_le}
use Rattle.std.specs.List.{list_all, list_any}
use Rattle.std.proofs.lemmas.Grind.{common_steps}
use Rattle.std.proofs.lemmas.Bool.{and_from, and_parts, cases_Bool, or_cases}
use Rattle.mt_meta.specs.Finding.{find_data_of}
use Rattle.mt_meta.specs.Stored.{is_stored}
use Rattle.mt_meta.specs.declared.meta.Meta.{Meta}
use Rattle.mt_runs.specs.mt_machine.State.{is_row, is_row_at}
use Rattle.mt_model.specs.rows.Order.{are_ascending, ascend_after, may_follow, stands_before}
use Rattle.mt_model.specs.rows.Sight.{same_place, stands_at}
use Rattle.mt_model.specs.rows.Stored.{is_stored_place, stored_places}
use Rattle.mt_model.specs.declared.messages.status.Status.{Status}
use Rattle.mt_model.specs.declared.tables.fabric.Fabric.{Fabric}
use Rattle.mt_model.specs.declared.rows.place.Place.{Place}
use Rattle.mt_model.specs.declared.rows.place.Row.{Row}
use Rattle.mt_marks.specs.Placed.{standing}

-- whether a row stands at one of these places
abbrev pub is_among : List Place → Row → Bool
is_among places row = list_any (same_place row.place) places

-- each place stands before all that come after it
abbrev pub rise : List Place → Bool
rise [] = true
rise (place ∷ places) = list_all (stands_before place) places && rise places

at_first : (p q : Place) (row : Row) → stands_at p row ≡ true → stands_before p q ≡ true → same_place row.place q ≡ false
at_first p q row a b = grind (arith, common_steps)

at_later : (p q : Place) (row : Row) → same_place row.place q ≡ true → stands_before p q ≡ true → stands_before p row.place ≡ true
at_later p q row a b = grind (arith, common_steps)

before-trans : (p q r : Place) → stands_before p q ≡ true → stands_before q r ≡ true → stands_before p r ≡ true
before-trans p q r a b = grind (arith, common_steps)

before_same : (p q r : Place) → stands_before p q ≡ true → same_place q r ≡ true → stands_before p r ≡ true
before_same p q r a b = grind (arith, common_steps)

goes_on : (p : Place) (row next : Row) → stands_before p row.place ≡ true → may_follow row next ≡ true → stands_before p next.place ≡ true
goes_on p row next a b = elim (or_cases (stands_before row.place next.place) (same_place row.place next.place && nat_le row.fabric next.fabric) b) [
  | inl before ↦ before-trans p row.place next.place a before
  | inr same ↦ before_same p row.place next.place a (and_parts _ _ same).0
]

behind_elsewhere : (p : Place) (row : Row) → stands_before p row.place ≡ true → stands_at p row ≡ false
behind_elsewhere p row a = grind (arith, common_steps)

ascending-tail : (row : Row) (rows : List Row) → ascend_after row rows ≡ true → are_ascending rows ≡ true
ascending-tail row [] e = refl
ascending-tail row (next ∷ rows) e = (and_parts _ _ e).1

none_among : (p : Place) (places : List Place) (row : Row) → list_all (stands_before p) places ≡ true → stands_at p row ≡ true → is_among places row ≡ false
none_among p [] row up at = refl
none_among p (q ∷ places) row up at = rw (at_first p q row at (and_parts _ _ up).0) (none_among p places row (and_parts _ _ up).1 at)

among_behind : (p : Place) (places : List Place) (row : Row) → list_all (stands_before p) places ≡ true → is_among places row ≡ true → stands_before p row.place ≡ true
among_behind p [] row up among = absurd (cc)
among_behind p (q ∷ places) row up among = elim (or_cases (same_place row.place q) (is_among places row) among) [
  | inl here ↦ at_later p q row here (and_parts _ _ up).0
  | inr later ↦ among_behind p places row (and_parts _ _ up).1 later
]

none_behind : (p : Place) (row : Row) (rows : List Row) → stands_before p row.place ≡ true → ascend_after row rows ≡ true → filter (stands_at p) rows ≡ []
none_behind p row [] before up = refl
none_behind p row (next ∷ rows) before up =
    let further = goes_on p row next before (and_parts _ _ up).0 in
    rw (behind_elsewhere p next further) (none_behind p next rows further (and_parts _ _ up).1)

-- the rows of the first place, and then those of later ones, are those of all
split : (p : Place) (places : List Place) → list_all (stands_before p) places ≡ true → (rows : List Row) → are_ascending rows ≡ true
    → filter (stands_at p) rows ++ filter (is_among places) rows ≡ filter (is_among (p ∷ places)) rows
split p places up [] ascending = refl
split p places up (row ∷ rows) ascending =
    let rest = split p places up rows (ascending-tail row rows ascending) in
    elim (cases_Bool (stands_at p row)) [
      | inl at ↦ rw (at, none_among p places row up at) (ap (λ (l : List Row). row ∷ l) rest)
      | inr away ↦ elim (cases_Bool (is_among places row)) [
        | inl among ↦
            let none = none_behind p row rows (among_behind p places row up among) ascending in
            rw (away, among, none) (ap (λ (l : List Row). row ∷ l) (ap (λ (l : List Row). l ++ filter (is_among places) rows) (sym none) ∙ rest))
        | inr neither ↦ rw (away, neither) rest
      ]
    ]

standing-among : (places : List Place) → rise places ≡ true → (rows : List Row) → are_ascending rows ≡ true → standing places rows ≡ filter (is_among places) rows
standing-among [] up [] ascending = refl
standing-among [] up (row ∷ rows) ascending = standing-among [] up rows (ascending-tail row rows ascending)
standing-among (p ∷ places) up rows ascending =
    ap (λ (l : List Row). filter (stands_at p) rows ++ l) (standing-among places (and_parts _ _ up).1 rows ascending)
    ∙ split p places (and_parts _ _ up).0 rows ascending

filter_every : (p : Row → Bool) (rows : List Row) → list_all p rows ≡ true → filter p rows ≡ rows
filter_every p [] all = refl
filter_every p (row ∷ rows) all = let here : p row ≡ true = (and_parts _ _ all).0 in rw here (ap (λ (l : List Row). row ∷ l) (filter_every p rows (and_parts _ _ all).1))

pub standing-all : (rows : List Row) → are_ascending rows ≡ true → list_all (λ (row : Row). is_stored_place row.place) rows ≡ true → standing stored_places rows ≡ rows
standing-all rows ascending stored = standing-among stored_places refl rows ascending ∙ filter_every (is_among stored_places) rows stored

-- The rows of a valid state stand at stored places.

is_found : (fabrics : List Fabric) (row : Row) (found : Result Meta Status) → is_row_at fabrics row found ≡ true → is_ok found ≡ true
is_found fabrics row (Ok meta) e = refl
is_found fabrics row (Err status) e = absurd (cc)

abbrev pub AreOfTheModel : Type 0
AreOfTheModel = (place : Place) → is_stored_place place ≡ (is_stored place && is_ok (find_data_of place))

pub stored_rows : AreOfTheModel → (fabrics : List Fabric) (rows : List Row) → list_all (is_row fabrics) rows ≡ true → list_all (λ (row : Row). is_stored_place row.place) rows ≡ true
stored_rows law fabrics [] all = refl
stored_rows law fabrics (row ∷ rows) all =
    let both = and_parts (is_row fabrics row) (list_all (is_row fabrics) rows) all in
    let parts = and_parts (is_stored row.place) (is_row_at fabrics row (find_data_of row.place)) both.0 in
    and_from _ _ (law row.place ∙ and_from _ _ parts.0 (is_found fabrics row (find_data_of row.place) parts.1)) (stored_rows law fabrics rows both.1)
