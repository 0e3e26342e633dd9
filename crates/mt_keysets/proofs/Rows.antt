-- What stands at one place of one fabric: behind other rows that are set, among rows that are left, and as the fabric sees it.
use Rattle.std.proofs.Common.{◌≡◌, ◌≢◌, ℕ, ◌==◌, ◌&&◌, ◌||◌, not, nat_lt, inl, inr, Bool, true, false, List, [], ◌∷◌, ◌++◌, refl, sym, ap, ◌∙◌, filter, map, arith, if◌then◌else◌}
use Rattle.std.proofs.lemmas.Bool.{and_from, and_parts, cases_Bool, cond_both, eqb-true}
use Rattle.std.proofs.lemmas.Grind.{common_steps}
use Rattle.std.proofs.lemmas.List.{append-nil}
use Rattle.std.proofs.lemmas.List.Elements.{filter-append}
use Rattle.mt_tlv.specs.declared.value.Value.{Value}
use Rattle.mt_groupkeys.specs.Sets.{values_of}
use Rattle.mt_model.specs.rows.Order.{in_order, is_higher, is_lower, is_own, row_at, stands_before}
use Rattle.mt_model.specs.rows.Setting.{is_above, is_at, is_below, with_rows}
use Rattle.mt_model.specs.rows.Sight.{bare_value, same_place, seen_by, stands_at}
use Rattle.mt_model.specs.declared.rows.place.Place.{Place}
use Rattle.mt_model.specs.declared.rows.place.Row.{Row}
use Rattle.mt_machine.specs.Isolation.{owns}

pub impossible : {A : Type 0} → false ≡ true → A
impossible is = absurd cc

-- Places.

pub place_same : (p q : Place) → same_place p q ≡ true → p ≡ q
place_same p q same =
    let outer = and_parts (p.endpoint == q.endpoint) (p.cluster == q.cluster && p.leaf == q.leaf) same in
    let inner = and_parts (p.cluster == q.cluster) (p.leaf == q.leaf) outer.1 in
    let endpoint = eqb-true p.endpoint q.endpoint outer.0 in
    let cluster = eqb-true p.cluster q.cluster inner.0 in
    let leaf = eqb-true p.leaf q.leaf inner.1 in
    λ i. record { endpoint = endpoint i; cluster = cluster i; leaf = leaf i }

place_itself : (p : Place) → same_place p p ≡ true
place_itself p = grind (arith, common_steps)

pub number_itself : (n : ℕ) → (n == n) ≡ true
number_itself n = grind arith

pub not_nobody : (fabric : ℕ) → fabric ≢ 0 → (fabric == 0) ≡ false
not_nobody fabric some = grind (arith, some)

-- Lists.

-- of those that pass, all are kept, or none is
kept_of : (p q : Row → Bool) (all : Bool) → ((row : Row) → q row ≡ true → p row ≡ all) → (rows : List Row) → filter q (filter p rows) ≡ (if all then filter q rows else [])
kept_of p q true each [] = refl
kept_of p q true each (row ∷ rows) =
    let rest = kept_of p q true each rows in
    elim (cases_Bool (q row)) [
      | inl passes ↦ let kept = each row passes in rw (kept, passes) (ap (λ (xs : List Row). row ∷ xs) rest)
      | inr fails ↦ elim (cases_Bool (p row)) [ inl kept ↦ rw (kept, fails) rest | inr gone ↦ rw (gone, fails) rest ]
    ]
kept_of p q false each [] = refl
kept_of p q false each (row ∷ rows) =
    let rest = kept_of p q false each rows in
    elim (cases_Bool (q row)) [
      | inl passes ↦ let gone = each row passes in rw gone rest
      | inr fails ↦ elim (cases_Bool (p row)) [ inl kept ↦ rw (kept, fails) rest | inr gone ↦ rw gone rest ]
    ]

pub all_kept : (p q : Row → Bool) → ((row : Row) → q row ≡ true → p row ≡ true) → (rows : List Row) → filter q (filter p rows) ≡ filter q rows
all_kept p q each rows = kept_of p q true each rows

none_kept : (p q : Row → Bool) → ((row : Row) → q row ≡ true → p row ≡ false) → (rows : List Row) → filter q (filter p rows) ≡ []
none_kept p q each rows = kept_of p q false each rows

-- Rows that are set.

module _ (place : Place) (fabric : ℕ) where
  below_is_other : (row : Row) → is_at place fabric row ≡ true → is_below place fabric row ≡ false
  below_is_other row e = grind (arith, common_steps)

  above_is_other : (row : Row) → is_at place fabric row ≡ true → is_above place fabric row ≡ false
  above_is_other row e = grind (arith, common_steps)

  above_is_not_below : (row : Row) → is_above place fabric row ≡ true → is_below place fabric row ≡ false
  above_is_not_below row e = grind (arith, common_steps)

  neither_is_at : (row : Row) → is_below place fabric row ≡ false → is_above place fabric row ≡ false → is_at place fabric row ≡ true
  neither_is_at row a b = grind (arith, common_steps)

  -- any other row stands on one side
  one_side : (row : Row) → is_at place fabric row ≡ false → is_above place fabric row ≡ not (is_below place fabric row)
  one_side row other = elim (cases_Bool (is_above place fabric row)) [
    | inl above ↦ above ∙ ap not (sym (above_is_not_below row above))
    | inr not_above ↦ elim (cases_Bool (is_below place fabric row)) [
      | inl below ↦ not_above ∙ ap not (sym below)
      | inr not_below ↦ impossible (sym other ∙ neither_is_at row not_below not_above)
    ]
  ]

  new_here : (values : List Value) → filter (is_at place fabric) (map (row_at place fabric) values) ≡ map (row_at place fabric) values
  new_here [] = refl
  new_here (value ∷ values) =
      let here : is_at place fabric (row_at place fabric value) ≡ true = and_from _ _ (place_itself place) (number_itself fabric) in
      rw here (ap (λ (xs : List Row). row_at place fabric value ∷ xs) (new_here values))

  pub set_here : (values : List Value) (rows : List Row) → filter (is_at place fabric) (with_rows place fabric values rows) ≡ map (row_at place fabric) values
  set_here values rows =
      filter-append (is_at place fabric) (filter (is_below place fabric) rows) (map (row_at place fabric) values ++ filter (is_above place fabric) rows)
      ∙ ap (λ (xs : List Row). xs ++ filter (is_at place fabric) (map (row_at place fabric) values ++ filter (is_above place fabric) rows)) (none_kept (is_below place fabric) (is_at place fabric) below_is_other rows)
      ∙ filter-append (is_at place fabric) (map (row_at place fabric) values) (filter (is_above place fabric) rows)
      ∙ (λ i. new_here values i ++ none_kept (is_above place fabric) (is_at place fabric) above_is_other rows i)
      ∙ append-nil (map (row_at place fabric) values)

  pub values_again : (values : List Value) → values_of (map (row_at place fabric) values) ≡ values
  values_again [] = refl
  values_again (value ∷ values) = ap (λ (xs : List Value). value ∷ xs) (values_again values)

-- a row of one place and fabric is as any other of these
as_any : (P : Place → ℕ → Bool) (place : Place) (fabric : ℕ) (row : Row) → is_at place fabric row ≡ true → P row.place row.fabric ≡ P place fabric
as_any P place fabric row here =
    let both = and_parts (same_place row.place place) (row.fabric == fabric) here in
    let where_at = place_same row.place place both.0 in
    let whose = eqb-true row.fabric fabric both.1 in
    λ i. P (where_at i) (whose i)

module _ (place other : Place) (fabric whose : ℕ) (apart : (same_place place other && fabric == whose) ≡ false) where
  abbrev stands_below : Place → ℕ → Bool
  stands_below p n = stands_before p other || (same_place p other && nat_lt n whose)

  elsewhere : (row : Row) → is_at place fabric row ≡ true → is_at other whose row ≡ false
  elsewhere row here = as_any (λ p n. same_place p other && n == whose) place fabric row here ∙ apart

  as_below : (row : Row) → is_at place fabric row ≡ true → is_below other whose row ≡ stands_below place fabric
  as_below row here = as_any stands_below place fabric row here

  as_above : (row : Row) → is_at place fabric row ≡ true → is_above other whose row ≡ not (stands_below place fabric)
  as_above row here = one_side other whose row (elsewhere row here) ∙ ap not (as_below row here)

  none_new : (values : List Value) → filter (is_at place fabric) (map (row_at other whose) values) ≡ []
  none_new [] = refl
  none_new (value ∷ values) = elim (cases_Bool (is_at place fabric (row_at other whose value))) [
    | inl here ↦ impossible (sym (elsewhere (row_at other whose value) here) ∙ and_from _ _ (place_itself other) (number_itself whose))
    | inr not_here ↦ rw not_here (none_new values)
  ]

  both_sides : (below : Bool) (rows : List Row) → (if below then filter (is_at place fabric) rows else []) ++ (if not below then filter (is_at place fabric) rows else []) ≡ filter (is_at place fabric) rows
  both_sides true rows = append-nil (filter (is_at place fabric) rows)
  both_sides false rows = refl

  -- where others are set, all stay
  pub set_elsewhere : (values : List Value) (rows : List Row) → filter (is_at place fabric) (with_rows other whose values rows) ≡ filter (is_at place fabric) rows
  set_elsewhere values rows =
      filter-append (is_at place fabric) (filter (is_below other whose) rows) (map (row_at other whose) values ++ filter (is_above other whose) rows)
      ∙ ap (λ (xs : List Row). filter (is_at place fabric) (filter (is_below other whose) rows) ++ xs) (filter-append (is_at place fabric) (map (row_at other whose) values) (filter (is_above other whose) rows))
      ∙ (λ i.
      kept_of (is_below other whose) (is_at place fabric) (stands_below place fabric) as_below rows i
      ++ (none_new values i ++ kept_of (is_above other whose) (is_at place fabric) (not (stands_below place fabric)) as_above rows i))
      ∙ both_sides (stands_below place fabric) rows

-- The rows of a fabric at a place are those of its own rows that stand there.
pub by_own : (place : Place) (fabric : ℕ) → fabric ≢ 0 → (rows : List Row) → filter (is_at place fabric) rows ≡ filter (stands_at place) (filter (owns fabric) rows)
by_own place fabric some [] = refl
by_own place fabric some (row ∷ rows) =
    let rest = by_own place fabric some rows in
    elim (cases_Bool (row.fabric == fabric)) [
      | inl its ↦
          let somebodys : (row.fabric == 0) ≡ false = ap (λ (n : ℕ). n == 0) (eqb-true row.fabric fabric its) ∙ not_nobody fabric some in
          elim (cases_Bool (same_place row.place place)) [
            | inl here ↦ rw (its, somebodys, here) (ap (λ (xs : List Row). row ∷ xs) rest)
            | inr elsewhere ↦ rw (its, somebodys, elsewhere) rest
          ]
      | inr anothers ↦ elim (cases_Bool (same_place row.place place)) [ inl here ↦ rw (anothers, here) rest | inr elsewhere ↦ rw (anothers, elsewhere) rest ]
    ]

-- As the fabric sees them they are the same.

seen_fabric : (fabric : ℕ) (row : Row) → (seen_by fabric row).fabric ≡ row.fabric
seen_fabric fabric row =
    cond_both (row.fabric == fabric || row.fabric == 0) row (record row { value = bare_value row.place row.value }) (λ (r : Row). r.fabric ≡ row.fabric) (λ whole. refl) (λ bare. refl)

seen_own : (fabric : ℕ) (rows : List Row) → filter (is_own fabric) (map (seen_by fabric) rows) ≡ filter (is_own fabric) rows
seen_own fabric [] = refl
seen_own fabric (row ∷ rows) =
    let rest = seen_own fabric rows in
    elim (cases_Bool (row.fabric == fabric)) [
      | inl its ↦ rw (its, its) (ap (λ (xs : List Row). row ∷ xs) rest)
      | inr anothers ↦
          let seen : is_own fabric (seen_by fabric row) ≡ false = ap (λ (n : ℕ). n == fabric) (seen_fabric fabric row) ∙ anothers in
          rw (seen, anothers) rest
    ]

lower_is_other : (fabric : ℕ) (row : Row) → is_own fabric row ≡ true → is_lower fabric row ≡ false
lower_is_other fabric row its = let same = eqb-true row.fabric fabric its in grind (arith, same)

higher_is_other : (fabric : ℕ) (row : Row) → is_own fabric row ≡ true → is_higher fabric row ≡ false
higher_is_other fabric row its = let same = eqb-true row.fabric fabric its in grind (arith, same)

own_in_order : (fabric : ℕ) (rows : List Row) → filter (is_own fabric) (in_order fabric rows) ≡ filter (is_own fabric) rows
own_in_order fabric rows =
    filter-append (is_own fabric) (filter (is_lower fabric) rows) (filter (is_own fabric) rows ++ filter (is_higher fabric) rows)
    ∙ ap (λ (xs : List Row). filter (is_own fabric) (filter (is_lower fabric) rows) ++ xs) (filter-append (is_own fabric) (filter (is_own fabric) rows) (filter (is_higher fabric) rows))
    ∙ (λ i.
    none_kept (is_lower fabric) (is_own fabric) (lower_is_other fabric) rows i
    ++ (all_kept (is_own fabric) (is_own fabric) (λ row its. its) rows i ++ none_kept (is_higher fabric) (is_own fabric) (higher_is_other fabric) rows i))
    ∙ append-nil (filter (is_own fabric) rows)

own_there : (place : Place) (fabric : ℕ) (rows : List Row) → filter (is_own fabric) (filter (stands_at place) rows) ≡ filter (is_at place fabric) rows
own_there place fabric [] = refl
own_there place fabric (row ∷ rows) =
    let rest = own_there place fabric rows in
    elim (cases_Bool (same_place row.place place)) [
      | inl here ↦ elim (cases_Bool (row.fabric == fabric)) [ inl its ↦ rw (here, its) (ap (λ (xs : List Row). row ∷ xs) rest) | inr anothers ↦ rw (here, anothers) rest ]
      | inr elsewhere ↦ rw elsewhere rest
    ]

pub seen_there : (place : Place) (fabric : ℕ) (rows : List Row) → filter (is_own fabric) (map (seen_by fabric) (in_order fabric (filter (stands_at place) rows))) ≡ filter (is_at place fabric) rows
seen_there place fabric rows = seen_own fabric (in_order fabric (filter (stands_at place) rows)) ∙ own_in_order fabric (filter (stands_at place) rows) ∙ own_there place fabric rows
