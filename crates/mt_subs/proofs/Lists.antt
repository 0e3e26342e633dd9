-- Lists of which at most one element passes a test, and tests of all elements.
use Rattle.std.proofs.Common.{◌≡◌, ℕ, zero, suc, ◌+◌, ◌<◌, ◌≤◌, ◌||◌, cond, not, Bool, true, false, List, [], ◌∷◌, ◌++◌, length, take, drop, get_or, slice_set, count_by, filter, map, Some, None, nat_lt, position, refl, ap, sym, ◌∙◌, inl, inr, arith, if◌then◌else◌}
use Rattle.std.proofs.lemmas.Bool.{and_from, and_parts, cases_Bool, cond-true, cond-false, not_from_false, not_from_true, or_from, true≢false, ltb-false}
use Rattle.std.proofs.lemmas.List.Folds.{list_any_at, list_any_none}
use Rattle.std.proofs.lemmas.List.Sums.{fails_before_first, sum_by-cons, sum_by_push}
use Rattle.std.specs.List.{list_all, list_any, position_or_len}

-- where one passes, none behind it does
abbrev pub at_most_once : {X : Type 0} → (X → Bool) → List X → Bool
at_most_once p [] = true
at_most_once p (x ∷ xs) = if p x then not (list_any p xs) else at_most_once p xs

not_true : (b : Bool) → not b ≡ true → b ≡ false
not_true true e = absurd (true≢false (sym e))
not_true false e = refl

or_parts : (a b : Bool) → (a || b) ≡ false → (a ≡ false) × (b ≡ false)
or_parts true b e = absurd (true≢false e)
or_parts false b e = (refl, e)

module _ {X : Type 0} (p : X → Bool) where
  pub any_parts : (x : X) (xs : List X) → list_any p (x ∷ xs) ≡ false → (p x ≡ false) × (list_any p xs ≡ false)
  any_parts x xs none = or_parts (p x) (list_any p xs) none

  -- none passes: without what passes all stay, and a change to it is none
  pub all_stay : (xs : List X) → list_any p xs ≡ false → filter (λ x. not (p x)) xs ≡ xs
  all_stay [] none = refl
  all_stay (x ∷ xs) none =
      let parts = any_parts x xs none in
      cond-true (not (p x)) (x ∷ filter (λ x. not (p x)) xs) (filter (λ x. not (p x)) xs) (not_from_false _ parts.0) ∙ ap (λ (rest : List X). x ∷ rest) (all_stay xs parts.1)

  pub none_changes : (f : X → X) (xs : List X) → list_any p xs ≡ false → map (λ x. if p x then f x else x) xs ≡ xs
  none_changes f [] none = refl
  none_changes f (x ∷ xs) none =
      let parts = any_parts x xs none in
      let rest = none_changes f xs parts.1 in
      λ i. cond-false (p x) (f x) x parts.0 i ∷ rest i

  -- none is left that passes
  pub none_left : (xs : List X) → list_any p (filter (λ x. not (p x)) xs) ≡ false
  none_left [] = refl
  none_left (x ∷ xs) = elim (cases_Bool (p x)) [
    | inl holds ↦ ap (λ (l : List X). list_any p l) (cond-false (not (p x)) (x ∷ filter (λ x. not (p x)) xs) (filter (λ x. not (p x)) xs) (not_from_true _ holds)) ∙ none_left xs
    | inr fails ↦ ap (λ (l : List X). list_any p l) (cond-true (not (p x)) (x ∷ filter (λ x. not (p x)) xs) (filter (λ x. not (p x)) xs) (not_from_false _ fails)) ∙ or_from (p x) _ fails (none_left xs)
  ]

  none_behind : (x : X) (xs : List X) → p x ≡ true → at_most_once p (x ∷ xs) ≡ true → list_any p xs ≡ false
  none_behind x xs holds once = not_true _ (sym (cond-true (p x) (not (list_any p xs)) (at_most_once p xs) holds) ∙ once)

  -- one before the one that passes does not
  not_before : (x : X) (xs : List X) (i : ℕ) (d : X) → i < length xs → p (get_or xs i d) ≡ true → at_most_once p (x ∷ xs) ≡ true → p x ≡ false
  not_before x xs i d lt here once = elim (cases_Bool (p x)) [
    | inr fails ↦ fails
    | inl holds ↦ absurd (true≢false (sym (list_any_at p xs i d lt here) ∙ none_behind x xs holds once))
  ]

  once_on : (x : X) (xs : List X) → p x ≡ false → at_most_once p (x ∷ xs) ≡ true → at_most_once p xs ≡ true
  once_on x xs fails once = sym (cond-false (p x) (not (list_any p xs)) (at_most_once p xs) fails) ∙ once

  -- the one that passes is taken away, or changed
  pub taken_out : (xs : List X) (i : ℕ) (d : X) → i < length xs → p (get_or xs i d) ≡ true → at_most_once p xs ≡ true → take i xs ++ drop (suc i) xs ≡ filter (λ x. not (p x)) xs
  taken_out [] i d lt here once = absurd (omega arith)
  taken_out (x ∷ xs) zero d lt here once =
      sym (cond-false (not (p x)) (x ∷ filter (λ x. not (p x)) xs) (filter (λ x. not (p x)) xs) (not_from_true _ here) ∙ all_stay xs (none_behind x xs here once))
  taken_out (x ∷ xs) (suc i) d lt here once =
      let before : i < length xs = omega arith in
      let fails = not_before x xs i d before here once in
      ap (λ (rest : List X). x ∷ rest) (taken_out xs i d before here (once_on x xs fails once))
      ∙ sym (cond-true (not (p x)) (x ∷ filter (λ x. not (p x)) xs) (filter (λ x. not (p x)) xs) (not_from_false _ fails))

  pub changed_there : (f : X → X) (xs : List X) (i : ℕ) (d : X) → i < length xs → p (get_or xs i d) ≡ true → at_most_once p xs ≡ true → slice_set xs i (f (get_or xs i d)) ≡ map (λ x. if p x then f x else x) xs
  changed_there f [] i d lt here once = absurd (omega arith)
  changed_there f (x ∷ xs) zero d lt here once =
      let rest = none_changes f xs (none_behind x xs here once) in
      λ i. sym (cond-true (p x) (f x) x here) i ∷ sym rest i
  changed_there f (x ∷ xs) (suc i) d lt here once =
      let before : i < length xs = omega arith in
      let fails = not_before x xs i d before here once in
      let rest = changed_there f xs i d before here (once_on x xs fails once) in
      λ j. sym (cond-false (p x) (f x) x fails) j ∷ rest j

  -- what holds of all holds of those that stay, and of what each comes to
  pub all_filter : (q : X → Bool) (xs : List X) → list_all p xs ≡ true → list_all p (filter q xs) ≡ true
  all_filter q [] all = refl
  all_filter q (x ∷ xs) all =
      let parts = and_parts (p x) (list_all p xs) all in
      elim (q x) as (λ b. list_all p (cond b (x ∷ filter q xs) (filter q xs)) ≡ true) [
        | true ↦ and_from _ _ parts.0 (all_filter q xs parts.1)
        | false ↦ all_filter q xs parts.1
      ]

  pub any_filter : (q : X → Bool) (xs : List X) → list_any p xs ≡ false → list_any p (filter q xs) ≡ false
  any_filter q [] none = refl
  any_filter q (x ∷ xs) none =
      let parts = any_parts x xs none in
      elim (q x) as (λ b. list_any p (cond b (x ∷ filter q xs) (filter q xs)) ≡ false) [
        | true ↦ or_from _ _ parts.0 (any_filter q xs parts.1)
        | false ↦ any_filter q xs parts.1
      ]

  pub all_imply : (q : X → Bool) → ((x : X) → p x ≡ true → q x ≡ true) → (xs : List X) → list_all p xs ≡ true → list_all q xs ≡ true
  all_imply q imply [] all = refl
  all_imply q imply (x ∷ xs) all = let parts = and_parts (p x) (list_all p xs) all in and_from _ _ (imply x parts.0) (all_imply q imply xs parts.1)

  pub none_imply : (q : X → Bool) → ((x : X) → p x ≡ true → q x ≡ false) → (xs : List X) → list_all p xs ≡ true → list_any q xs ≡ false
  none_imply q imply [] all = refl
  none_imply q imply (x ∷ xs) all = let parts = and_parts (p x) (list_all p xs) all in or_from _ _ (imply x parts.0) (none_imply q imply xs parts.1)

  -- counts
  pub count_more : (xs : List X) (x : X) → count_by p (xs ++ x ∷ []) ≡ count_by p xs + cond (p x) 1 0
  count_more = sum_by_push (λ x. cond (p x) 1 0)

  pub count_filter : (q : X → Bool) (xs : List X) → count_by p (filter q xs) ≤ count_by p xs
  count_filter q [] = omega arith
  count_filter q (x ∷ xs) =
      let f : X → ℕ = λ x. cond (p x) 1 0 in
      let rest : count_by p (filter q xs) ≤ count_by p xs = count_filter q xs in
      let all : count_by p (x ∷ xs) ≡ cond (p x) 1 0 + count_by p xs = sum_by-cons f x xs in
      let left : count_by p (x ∷ filter q xs) ≡ cond (p x) 1 0 + count_by p (filter q xs) = sum_by-cons f x (filter q xs) in
      elim (q x) as (λ b. count_by p (cond b (x ∷ filter q xs) (filter q xs)) ≤ count_by p (x ∷ xs)) [ true ↦ omega (arith, rest, all, left) | false ↦ omega (arith, rest, all) ]

  pub count_map : (f : X → X) → ((x : X) → p (f x) ≡ p x) → (xs : List X) → count_by p (map f xs) ≡ count_by p xs
  count_map f same [] = refl
  count_map f same (x ∷ xs) =
      sum_by-cons (λ x. cond (p x) 1 0) (f x) (map f xs)
      ∙ (λ i. cond (same x i) 1 0 + count_map f same xs i)
      ∙ sym (sum_by-cons (λ x. cond (p x) 1 0) x xs)

  -- the longest front of which all pass, where none passes behind it
  pub front : (xs : List X) (i : ℕ) → ((k : ℕ) (d : X) → k < i → p (get_or xs k d) ≡ true) → i ≤ length xs → filter p (drop i xs) ≡ [] → take i xs ≡ filter p xs
  front xs zero all le none = sym none
  front [] (suc i) all le none = absurd (omega arith)
  front (x ∷ xs) (suc i) all le none =
      ap (λ (rest : List X). x ∷ rest) (front xs i (λ k d lt. all (suc k) d (omega (arith, lt))) (omega arith) none)
      ∙ sym (cond-true (p x) (x ∷ filter p xs) (filter p xs) (all 0 x (omega arith)))

  pub whole : (xs : List X) → ((k : ℕ) (d : X) → k < length xs → p (get_or xs k d) ≡ true) → xs ≡ filter p xs
  whole [] all = refl
  whole (x ∷ xs) all =
      ap (λ (rest : List X). x ∷ rest) (whole xs (λ k d lt. all (suc k) d (omega (arith, lt))))
      ∙ sym (cond-true (p x) (x ∷ filter p xs) (filter p xs) (all 0 x (omega arith)))

  pub none_stays : (xs : List X) → ((x : X) → p x ≡ false) → filter p xs ≡ []
  none_stays [] fails = refl
  none_stays (x ∷ xs) fails = cond-false (p x) (x ∷ filter p xs) (filter p xs) (fails x) ∙ none_stays xs fails

  -- no place is told where none passes
  no_place : (b : Bool) (n : ℕ) → cond b (Some n) None ≡ None → b ≡ false
  no_place true n e = cc
  no_place false n e = refl

  pub position-None : (xs : List X) → position p xs ≡ None → list_any p xs ≡ false
  position-None xs e =
      let past = ltb-false _ _ (no_place (nat_lt (position_or_len p xs) (length xs)) (position_or_len p xs) e) in
      list_any_none p xs (λ k d lt. fails_before_first p xs k d (omega (arith, past, lt)))
