-- What the order of rows implies.
use Rattle.std.proofs.Common.{◌≡◌, ℕ, zero, suc, ◌+◌, ◌<◌, ◌≤◌, ◌⊎◌, inl, inr, Bool, true, false, ◌&&◌, List, [], ◌∷◌, ◌++◌, refl, sym, ap, ◌∙◌, subst, length, get_or, take, arith, leb}
use Rattle.std.proofs.lemmas.Grind.{common_steps}
use Rattle.std.proofs.lemmas.Bool.{both_ways, false_from_ne_true, and_parts, and_from, or_cases, or_left, or_right, leb-true, le-leb}
use Rattle.std.proofs.lemmas.List.{take_at}
use Rattle.std.specs.List.{AllAdjacentBelow, IsAllAdjacentAnswer}
use Rattle.mt_model.specs.rows.Order.{stands_before, may_follow, ascend_after, are_ascending}
use Rattle.mt_model.specs.rows.Sight.{same_place}
use Rattle.mt_model.specs.declared.rows.place.Place.{Place}
use Rattle.mt_model.specs.declared.rows.place.Row.{Row}

pub stands_before-trans : (p q r : Place) → stands_before p q ≡ true → stands_before q r ≡ true → stands_before p r ≡ true
stands_before-trans p q r a b = grind (arith, common_steps)

pub before_same : (p q r : Place) → stands_before p q ≡ true → same_place q r ≡ true → stands_before p r ≡ true
before_same p q r a b = grind (arith, common_steps)

pub same_before : (p q r : Place) → same_place p q ≡ true → stands_before q r ≡ true → stands_before p r ≡ true
same_before p q r a b = grind (arith, common_steps)

pub same_place-trans : (p q r : Place) → same_place p q ≡ true → same_place q r ≡ true → same_place p r ≡ true
same_place-trans p q r a b = grind (arith, common_steps)

pub same_place-sym : (p q : Place) → same_place p q ≡ true → same_place q p ≡ true
same_place-sym p q a = grind (arith, common_steps)

pub same_place-refl : (p : Place) → same_place p p ≡ true
same_place-refl p = grind (arith, common_steps)

pub same_not_before : (p q : Place) → same_place p q ≡ true → stands_before p q ≡ true → ⊥
same_not_before p q a b = grind (arith, common_steps)

-- how a row follows another
pub follow_cases : (a b : Row) → may_follow a b ≡ true → (stands_before a.place b.place ≡ true) ⊎ ((same_place a.place b.place ≡ true) × (a.fabric ≤ b.fabric))
follow_cases a b e = elim (or_cases (stands_before a.place b.place) (same_place a.place b.place && leb a.fabric b.fabric) e) [
  | inl x ↦ inl x
  | inr y ↦ inr ((and_parts _ _ y).0, leb-true _ _ (and_parts _ _ y).1)
]

pub follow_before : (a b : Row) → stands_before a.place b.place ≡ true → may_follow a b ≡ true
follow_before a b e = or_left _ _ e

pub follow_same : (a b : Row) → same_place a.place b.place ≡ true → a.fabric ≤ b.fabric → may_follow a b ≡ true
follow_same a b e h = or_right _ _ (and_from _ _ e (le-leb _ _ h))

pub may_follow-trans : (a b c : Row) → may_follow a b ≡ true → may_follow b c ≡ true → may_follow a c ≡ true
may_follow-trans a b c x y = elim (follow_cases a b x) [
  | inl p ↦ elim (follow_cases b c y) [
    | inl q ↦ follow_before a c (stands_before-trans a.place b.place c.place p q)
    | inr q ↦ follow_before a c (before_same a.place b.place c.place p q.0)
  ]
  | inr p ↦ elim (follow_cases b c y) [
    | inl q ↦ follow_before a c (same_before a.place b.place c.place p.0 q)
    | inr q ↦ follow_same a c (same_place-trans a.place b.place c.place p.0 q.0) (omega (arith, p.1, q.1))
  ]
]

-- the first of two places in order comes no later than the second
pub before_back : (p : Place) (a b : Row) → may_follow a b ≡ true → stands_before b.place p ≡ true → stands_before a.place p ≡ true
before_back p a b x y = elim (follow_cases a b x) [
  | inl q ↦ stands_before-trans a.place b.place p q y
  | inr q ↦ same_before a.place b.place p q.0 y
]

pub after_on : (p : Place) (a b : Row) → may_follow a b ≡ true → stands_before p a.place ≡ true → stands_before p b.place ≡ true
after_on p a b x y = elim (follow_cases a b x) [
  | inl q ↦ stands_before-trans p a.place b.place y q
  | inr q ↦ before_same p a.place b.place y q.0
]

-- each row of an ascending list may follow each before it
later : (row : Row) (rows : List Row) → ascend_after row rows ≡ true → (j : ℕ) (d : Row) → j < length rows → may_follow row (get_or rows j d) ≡ true
later row [] e j d h = absurd (omega arith)
later row (next ∷ rows) e zero d h = (and_parts _ _ e).0
later row (next ∷ rows) e (suc j) d h = may_follow-trans row next (get_or rows j d) (and_parts _ _ e).0 (later next rows (and_parts _ _ e).1 j d (omega arith))

pub ascending-tail : (row : Row) (rows : List Row) → ascend_after row rows ≡ true → are_ascending rows ≡ true
ascending-tail row [] e = refl
ascending-tail row (next ∷ rows) e = (and_parts _ _ e).1

pub ascending_pairs : (rows : List Row) → are_ascending rows ≡ true → (i j : ℕ) (d : Row) → i < j → j < length rows → may_follow (get_or rows i d) (get_or rows j d) ≡ true
ascending_pairs [] e i j d lt h = absurd (omega arith)
ascending_pairs (row ∷ rows) e i zero d lt h = absurd (omega arith)
ascending_pairs (row ∷ rows) e zero (suc j) d lt h = later row rows e j d (omega arith)
ascending_pairs (row ∷ rows) e (suc i) (suc j) d lt h = ascending_pairs rows (ascending-tail row rows e) i j d (omega arith) (omega arith)

pub ascending-take : (n : ℕ) (rows : List Row) → are_ascending rows ≡ true → are_ascending (take n rows) ≡ true
ascending-take zero rows e = refl
ascending-take (suc n) [] e = refl
ascending-take (suc zero) (row ∷ rows) e = refl
ascending-take (suc (suc n)) (row ∷ []) e = refl
ascending-take (suc (suc n)) (row ∷ (next ∷ rows)) e = and_from _ _ (and_parts _ _ e).0 (ascending-take (suc n) (next ∷ rows) (and_parts _ _ e).1)

-- what stands in front of others in order
pub ascending-front : (rows others : List Row) → are_ascending (rows ++ others) ≡ true → are_ascending rows ≡ true
ascending-front rows others e = ap are_ascending (sym (take_at rows others (length rows) refl)) ∙ ascending-take (length rows) (rows ++ others) e

-- what a test of neighbours tells
neighbours_ascend : (row : Row) (rows : List Row) → AllAdjacentBelow (λ a b. true ≡ may_follow a b) (row ∷ rows) (length (row ∷ rows)) → ascend_after row rows ≡ true
neighbours_ascend row [] h = refl
neighbours_ascend row (next ∷ rows) h = and_from _ _ (sym (h zero row (omega arith))) (neighbours_ascend next rows (λ k d lt.
    let one : suc k + 1 ≡ suc (k + 1) = omega arith in
    subst (λ (j : ℕ). true ≡ may_follow (get_or (next ∷ rows) k d) (get_or (row ∷ (next ∷ rows)) j d)) one (h (suc k) d (omega arith))))

pub ascending_answer : (rows : List Row) (answer : Bool) → IsAllAdjacentAnswer (λ a b r. r ≡ may_follow a b) rows answer → answer ≡ are_ascending rows
ascending_answer [] true h = refl
ascending_answer [] false h = absurd (omega (arith, h.1))
ascending_answer (row ∷ rows) true h = sym (neighbours_ascend row rows h)
ascending_answer (row ∷ rows) false h = sym (false_from_ne_true (ascend_after row rows) (λ e. both_ways (may_follow (get_or (row ∷ rows) h.0 row) (get_or (row ∷ rows) (h.0 + 1) row)) (sym (h.2 row)) (ascending_pairs (row ∷ rows) e h.0 (h.0 + 1) row (omega arith) h.1)))
