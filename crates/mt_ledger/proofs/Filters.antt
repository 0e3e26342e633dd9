-- Filters: one behind another, with a change, and what they leave to searches and counts.
use Rattle.std.proofs.Common.{◌≡◌, ℕ, ◌+◌, ◌||◌, Bool, true, false, cond, List, [], ◌∷◌, ◌++◌, Option, Some, count_by, filter, find, map, refl, ap, sym, ◌∙◌, inl, inr, arith}
use Rattle.std.specs.List.{list_all, list_any}
use Rattle.std.proofs.lemmas.Bool.{and_from, and_parts, both_ways, cases_Bool, cond-false, cond-true}
use Rattle.std.proofs.lemmas.List.Sums.{sum_by-cons}

module _ {X : Type 0} (p : X → Bool) where
  pub kept : (x : X) (xs : List X) → p x ≡ true → filter p (x ∷ xs) ≡ x ∷ filter p xs
  kept x xs passes = cond-true (p x) (x ∷ filter p xs) (filter p xs) passes

  pub dropped : (x : X) (xs : List X) → p x ≡ false → filter p (x ∷ xs) ≡ filter p xs
  dropped x xs fails = cond-false (p x) (x ∷ filter p xs) (filter p xs) fails

  -- what is left passes, and where all pass, all is left
  pub all_left : (xs : List X) → list_all p (filter p xs) ≡ true
  all_left [] = refl
  all_left (x ∷ xs) = elim (cases_Bool (p x)) [
    | inl passes ↦ ap (λ (l : List X). list_all p l) (kept x xs passes) ∙ and_from (p x) (list_all p (filter p xs)) passes (all_left xs)
    | inr fails ↦ ap (λ (l : List X). list_all p l) (dropped x xs fails) ∙ all_left xs
  ]

  pub whole : (xs : List X) → list_all p xs ≡ true → filter p xs ≡ xs
  whole [] all = refl
  whole (x ∷ xs) all =
      let parts = and_parts (p x) (list_all p xs) all in
      kept x xs parts.0 ∙ ap (λ (l : List X). x ∷ l) (whole xs parts.1)

  pub filter-append : (xs ys : List X) → filter p (xs ++ ys) ≡ filter p xs ++ filter p ys
  filter-append [] ys = refl
  filter-append (x ∷ xs) ys = elim (cases_Bool (p x)) [
    | inl passes ↦ kept x (xs ++ ys) passes ∙ ap (λ (l : List X). x ∷ l) (filter-append xs ys) ∙ ap (λ (l : List X). l ++ filter p ys) (sym (kept x xs passes))
    | inr fails ↦ dropped x (xs ++ ys) fails ∙ filter-append xs ys ∙ ap (λ (l : List X). l ++ filter p ys) (sym (dropped x xs fails))
  ]

-- two tests, one behind the other
module _ {X : Type 0} (p q : X → Bool) where
  pub swapped : (xs : List X) → filter p (filter q xs) ≡ filter q (filter p xs)
  swapped [] = refl
  swapped (x ∷ xs) = elim (cases_Bool (p x)) [
    | inl passes ↦ elim (cases_Bool (q x)) [
      | inl too ↦
          ap (λ (l : List X). filter p l) (kept q x xs too) ∙ kept p x (filter q xs) passes ∙ ap (λ (l : List X). x ∷ l) (swapped xs)
          ∙ sym (kept q x (filter p xs) too) ∙ sym (ap (λ (l : List X). filter q l) (kept p x xs passes))
      | inr fails ↦
          ap (λ (l : List X). filter p l) (dropped q x xs fails) ∙ swapped xs
          ∙ sym (dropped q x (filter p xs) fails) ∙ sym (ap (λ (l : List X). filter q l) (kept p x xs passes))
    ]
    | inr apart ↦ elim (cases_Bool (q x)) [
      | inl too ↦
          ap (λ (l : List X). filter p l) (kept q x xs too) ∙ dropped p x (filter q xs) apart ∙ swapped xs
          ∙ sym (ap (λ (l : List X). filter q l) (dropped p x xs apart))
      | inr fails ↦
          ap (λ (l : List X). filter p l) (dropped q x xs fails) ∙ swapped xs
          ∙ sym (ap (λ (l : List X). filter q l) (dropped p x xs apart))
    ]
  ]

-- a test that passes what another does, and no more
module _ {X : Type 0} (p q : X → Bool) (implied : (x : X) → p x ≡ true → q x ≡ true) where
  fails_too : (x : X) → q x ≡ false → p x ≡ false
  fails_too x fails = elim (cases_Bool (p x)) [
    | inl passes ↦ absurd (both_ways (q x) fails (implied x passes))
    | inr it ↦ it
  ]

  pub within : (xs : List X) → filter p (filter q xs) ≡ filter p xs
  within [] = refl
  within (x ∷ xs) = elim (cases_Bool (q x)) [
    | inl passes ↦ ap (λ (l : List X). filter p l) (kept q x xs passes) ∙ ap (λ (l : List X). cond (p x) (x ∷ l) l) (within xs)
    | inr fails ↦ ap (λ (l : List X). filter p l) (dropped q x xs fails) ∙ within xs ∙ sym (dropped p x xs (fails_too x fails))
  ]

  pub any_within : (xs : List X) → list_any p (filter q xs) ≡ list_any p xs
  any_within [] = refl
  any_within (x ∷ xs) = elim (cases_Bool (q x)) [
    | inl passes ↦ ap (λ (l : List X). list_any p l) (kept q x xs passes) ∙ ap (λ (b : Bool). p x || b) (any_within xs)
    | inr fails ↦ ap (λ (l : List X). list_any p l) (dropped q x xs fails) ∙ any_within xs ∙ sym (ap (λ (b : Bool). b || list_any p xs) (fails_too x fails))
  ]

  pub find_within : (xs : List X) → find p (filter q xs) ≡ find p xs
  find_within [] = refl
  find_within (x ∷ xs) = elim (cases_Bool (q x)) [
    | inl passes ↦ ap (λ (l : List X). find p l) (kept q x xs passes) ∙ ap (λ (o : Option X). cond (p x) (Some x) o) (find_within xs)
    | inr fails ↦ ap (λ (l : List X). find p l) (dropped q x xs fails) ∙ find_within xs ∙ sym (cond-false (p x) (Some x) (find p xs) (fails_too x fails))
  ]

  pub count_within : (xs : List X) → count_by p (filter q xs) ≡ count_by p xs
  count_within [] = refl
  count_within (x ∷ xs) =
      let one : X → ℕ = λ y. cond (p y) 1 0 in
      elim (cases_Bool (q x)) [
        | inl passes ↦
            ap (λ (l : List X). count_by p l) (kept q x xs passes) ∙ sum_by-cons one x (filter q xs) ∙ ap (λ (n : ℕ). one x + n) (count_within xs) ∙ sym (sum_by-cons one x xs)
        | inr fails ↦
            let none : one x ≡ 0 = cond-false (p x) 1 0 (fails_too x fails) in
            let all : count_by p (x ∷ xs) ≡ one x + count_by p xs = sum_by-cons one x xs in
            ap (λ (l : List X). count_by p l) (dropped q x xs fails) ∙ count_within xs ∙ omega (arith, none, all)
      ]

-- a change that moves nothing between those that pass and the others
module _ {X : Type 0} (p : X → Bool) (f : X → X) where
  pub filter-map : ((x : X) → p (f x) ≡ p x) → (xs : List X) → filter p (map f xs) ≡ map f (filter p xs)
  filter-map same [] = refl
  filter-map same (x ∷ xs) = elim (cases_Bool (p x)) [
    | inl passes ↦ kept p (f x) (map f xs) (same x ∙ passes) ∙ ap (λ (l : List X). f x ∷ l) (filter-map same xs) ∙ sym (ap (λ (l : List X). map f l) (kept p x xs passes))
    | inr fails ↦ dropped p (f x) (map f xs) (same x ∙ fails) ∙ filter-map same xs ∙ sym (ap (λ (l : List X). map f l) (dropped p x xs fails))
  ]

  -- and that changes none that passes
  pub unmoved : ((x : X) → p x ≡ true → f x ≡ x) → (xs : List X) → map f (filter p xs) ≡ filter p xs
  unmoved still [] = refl
  unmoved still (x ∷ xs) = elim (cases_Bool (p x)) [
    | inl passes ↦ ap (λ (l : List X). map f l) (kept p x xs passes) ∙ (λ i. still x passes i ∷ unmoved still xs i) ∙ sym (kept p x xs passes)
    | inr fails ↦ ap (λ (l : List X). map f l) (dropped p x xs fails) ∙ unmoved still xs ∙ sym (dropped p x xs fails)
  ]

-- a test that holds as another does where a third holds
module _ {X : Type 0} (p q r : X → Bool) (alike : (x : X) → p x ≡ true → q x ≡ r x) where
  pub agree : (xs : List X) → filter q (filter p xs) ≡ filter r (filter p xs)
  agree [] = refl
  agree (x ∷ xs) = elim (cases_Bool (p x)) [
    | inl passes ↦
        ap (λ (l : List X). filter q l) (kept p x xs passes)
        ∙ (λ i. cond (alike x passes i) (x ∷ agree xs i) (agree xs i))
        ∙ sym (ap (λ (l : List X). filter r l) (kept p x xs passes))
    | inr fails ↦ ap (λ (l : List X). filter q l) (dropped p x xs fails) ∙ agree xs ∙ sym (ap (λ (l : List X). filter r l) (dropped p x xs fails))
  ]
