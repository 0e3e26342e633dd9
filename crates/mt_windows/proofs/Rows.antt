-- What steps leave of the rows of nobody at a place: those that the last of them sets there, or those that were there.
use Rattle.std.proofs.Common.{◌≡◌, ℕ, ◌<◌, ◌==◌, ◌&&◌, ◌||◌, ◌++◌, inl, inr, not, nat_lt, Bool, true, false, List, [], ◌∷◌, Option, Some, refl, sym, ap, ◌∙◌, subst, filter, map, arith}
use Rattle.std.proofs.lemmas.Bool.{and_from, and_parts, cases_Bool, eqb-true, ltb-true}
use Rattle.std.proofs.lemmas.Bool.Decides.{nat_tests}
use Rattle.std.proofs.lemmas.List.{append-nil}
use Rattle.std.proofs.lemmas.List.Elements.{filter-append}
use Rattle.mt_fabrics.specs.Table.{is_used}
use Rattle.mt_tlv.specs.declared.value.Value.{Value}
use Rattle.mt_model.specs.rows.Order.{are_ascending, fabrics_ascend, rise_above, row_at, stands_before}
use Rattle.mt_model.specs.rows.Setting.{is_above, is_at, is_below, with_rows}
use Rattle.mt_model.specs.rows.Sight.{same_place}
use Rattle.mt_model.specs.tables.Leaving.{stays}
use Rattle.mt_model.specs.declared.rows.place.Place.{Place}
use Rattle.mt_model.specs.declared.rows.place.Row.{Row}
use Rattle.mt_model.specs.declared.tables.fabric.Fabric.{Fabric}

-- Lists.

-- nothing passes both of two tests that exclude each other
pub filter-none : {X : Type 0} (p r : X → Bool) → ((x : X) → p x ≡ true → r x ≡ false) → (xs : List X) → filter p (filter r xs) ≡ []
filter-none p r each [] = refl
filter-none p r each (x ∷ xs) = elim (cases_Bool (p x)) [
  | inl is ↦ rw (each x is) (filter-none p r each xs)
  | inr is_not ↦ elim (cases_Bool (r x)) [
    | inl kept ↦ rw (kept, is_not) (filter-none p r each xs)
    | inr gone ↦ rw gone (filter-none p r each xs)
  ]
]

-- a test that implies another passes the same of what passes that
pub filter-stronger : {X : Type 0} (p r : X → Bool) → ((x : X) → p x ≡ true → r x ≡ true) → (xs : List X) → filter p (filter r xs) ≡ filter p xs
filter-stronger p r each [] = refl
filter-stronger p r each (x ∷ xs) = elim (cases_Bool (p x)) [
  | inl is ↦ rw (each x is, is) (ap (λ (l : List _). x ∷ l) (filter-stronger p r each xs))
  | inr is_not ↦ elim (cases_Bool (r x)) [
    | inl kept ↦ rw (kept, is_not) (filter-stronger p r each xs)
    | inr gone ↦ rw (gone, is_not) (filter-stronger p r each xs)
  ]
]

-- what holds of no value of a map passes no test
filter-map-none : {X Y : Type 0} (p : Y → Bool) (f : X → Y) → ((x : X) → p (f x) ≡ false) → (xs : List X) → filter p (map f xs) ≡ []
filter-map-none p f each [] = refl
filter-map-none p f each (x ∷ xs) = rw (each x) (filter-map-none p f each xs)

filter-map-all : {X Y : Type 0} (p : Y → Bool) (f : X → Y) → ((x : X) → p (f x) ≡ true) → (xs : List X) → filter p (map f xs) ≡ map f xs
filter-map-all p f each [] = refl
filter-map-all p f each (x ∷ xs) = rw (each x) (ap (λ (l : List _). f x ∷ l) (filter-map-all p f each xs))

-- Places.

pub place-same : (p q : Place) → same_place p q ≡ true → p ≡ q
place-same p q same =
    let ends = and_parts (p.endpoint == q.endpoint) (p.cluster == q.cluster && p.leaf == q.leaf) same in
    let rest = and_parts (p.cluster == q.cluster) (p.leaf == q.leaf) ends.1 in
    λ i. record { endpoint = eqb-true p.endpoint q.endpoint ends.0 i; cluster = eqb-true p.cluster q.cluster rest.0 i; leaf = eqb-true p.leaf q.leaf rest.1 i }

pub place-itself : (p : Place) → same_place p p ≡ true
place-itself p = grind arith

before-itself : (p : Place) → stands_before p p ≡ false
before-itself p = grind (arith, nat_tests)

-- whether rows of this fabric at this place are those of nobody at the other
abbrev pub is_its : Place → Place → ℕ → Bool
is_its q place whose = same_place place q && whose == 0

-- Rows that are set.

module _ (q : Place) where
  abbrev pub mine : Row → Bool
  mine row = is_at q 0 row

  not_below : (row : Row) → mine row ≡ true → is_below q 0 row ≡ false
  not_below row is =
      let both = and_parts (same_place row.place q) (row.fabric == 0) is in
      subst (λ (p : Place). (stands_before p q || (same_place p q && nat_lt row.fabric 0)) ≡ false) (sym (place-same row.place q both.0))
      (subst (λ (n : ℕ). (stands_before q q || (same_place q q && nat_lt n 0)) ≡ false) (sym (eqb-true row.fabric 0 both.1))
      (rw (before-itself q, place-itself q) refl))

  not_above : (row : Row) → mine row ≡ true → is_above q 0 row ≡ false
  not_above row is =
      let both = and_parts (same_place row.place q) (row.fabric == 0) is in
      subst (λ (p : Place). (stands_before q p || (same_place q p && nat_lt 0 row.fabric)) ≡ false) (sym (place-same row.place q both.0))
      (subst (λ (n : ℕ). (stands_before q q || (same_place q q && nat_lt 0 n)) ≡ false) (sym (eqb-true row.fabric 0 both.1))
      (rw (before-itself q, place-itself q) refl))

  at_itself : (value : Value) → mine (row_at q 0 value) ≡ true
  at_itself value = and_from _ _ (place-itself q) refl

  set_itself : (vs : List Value) (rows : List Row) → filter mine (with_rows q 0 vs rows) ≡ map (row_at q 0) vs
  set_itself vs rows =
      filter-append mine (filter (is_below q 0) rows) (map (row_at q 0) vs ++ filter (is_above q 0) rows)
      ∙ (λ i. filter-none mine (is_below q 0) not_below rows i ++ filter-append mine (map (row_at q 0) vs) (filter (is_above q 0) rows) i)
      ∙ (λ i. filter-map-all mine (row_at q 0) at_itself vs i ++ filter-none mine (is_above q 0) not_above rows i)
      ∙ append-nil (map (row_at q 0) vs)

  -- where the rows of this fabric at this place are set
  pub set_there : (place : Place) (whose : ℕ) (vs : List Value) (rows : List Row) → is_its q place whose ≡ true → filter mine (with_rows place whose vs rows) ≡ map (row_at q 0) vs
  set_there place whose vs rows its =
      let both = and_parts (same_place place q) (whose == 0) its in
      (λ i. filter mine (with_rows (place-same place q both.0 i) (eqb-true whose 0 both.1 i) vs rows)) ∙ set_itself vs rows

module _ (ordered : (rows : List Row) (place : Place) (fabric : ℕ) → are_ascending rows ≡ true → filter (is_below place fabric) rows ++ filter (is_above place fabric) rows ≡ filter (λ (row : Row). not (is_at place fabric row)) rows) (q : Place) where
  -- where others are
  pub set_elsewhere : (place : Place) (whose : ℕ) (vs : List Value) (rows : List Row) → are_ascending rows ≡ true → is_its q place whose ≡ false → filter (mine q) (with_rows place whose vs rows) ≡ filter (mine q) rows
  set_elsewhere place whose vs rows up other =
      filter-append (mine q) (filter (is_below place whose) rows) (map (row_at place whose) vs ++ filter (is_above place whose) rows)
      ∙ ap (λ (l : List Row). filter (mine q) (filter (is_below place whose) rows) ++ l) (filter-append (mine q) (map (row_at place whose) vs) (filter (is_above place whose) rows))
      ∙ (λ i. filter (mine q) (filter (is_below place whose) rows) ++ (filter-map-none (mine q) (row_at place whose) (λ value. other) vs i ++ filter (mine q) (filter (is_above place whose) rows)))
      ∙ sym (filter-append (mine q) (filter (is_below place whose) rows) (filter (is_above place whose) rows))
      ∙ ap (filter (mine q)) (ordered rows place whose up)
      ∙ filter-stronger (mine q) (λ (row : Row). not (is_at place whose row)) apart rows
    where
      apart : (row : Row) → mine q row ≡ true → not (is_at place whose row) ≡ true
      apart row is = elim (cases_Bool (is_at place whose row)) [
        | inl at ↦
            let both = and_parts (same_place row.place q) (row.fabric == 0) is in
            let there = and_parts (same_place row.place place) (row.fabric == whose) at in
            let its : is_its q place whose ≡ true =
            subst (λ (p : Place). (same_place p q && whose == 0) ≡ true) (place-same row.place place there.0)
            (subst (λ (n : ℕ). (same_place row.place q && n == 0) ≡ true) (eqb-true row.fabric whose there.1) is) in
            absurd cc
        | inr not_at ↦ ap not not_at
      ]

-- Fabrics of the table have indexes from 1 on, so that nobody's rows stay where one leaves.

pub above_least : (least : ℕ) (fabrics : List Fabric) → rise_above least fabrics ≡ true → is_used 0 fabrics ≡ false
above_least least [] rise = refl
above_least least (f ∷ fabrics) rise =
    let both = and_parts (nat_lt least f.index) (rise_above f.index fabrics) rise in
    let higher : least < f.index = ltb-true least f.index both.0 in
    let other : (f.index == 0) ≡ false = grind (arith, higher) in
    rw other (above_least f.index fabrics both.1)

pub member_stays : (fabrics : List Fabric) (index : ℕ) → fabrics_ascend fabrics ≡ true → is_used index fabrics ≡ true → stays (Some index) 0 ≡ true
member_stays fabrics index rise there = elim (cases_Bool (index == 0)) [
  | inl none ↦
      let absent : is_used index fabrics ≡ false = subst (λ (n : ℕ). is_used n fabrics ≡ false) (sym (eqb-true index 0 none)) (above_least 0 fabrics rise) in
      absurd cc
  | inr some ↦ ap not some
]

pub kept_there : (q : Place) (gone : Option ℕ) (rows : List Row) → stays gone 0 ≡ true → filter (mine q) (filter (λ (row : Row). stays gone row.fabric) rows) ≡ filter (mine q) rows
kept_there q gone rows stay =
    filter-stronger (mine q) (λ (row : Row). stays gone row.fabric)
    (λ row is. subst (λ (n : ℕ). stays gone n ≡ true) (sym (eqb-true row.fabric 0 (and_parts (same_place row.place q) (row.fabric == 0) is).1)) stay) rows
