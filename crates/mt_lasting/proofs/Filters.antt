-- Filters of filters, and of lists of which all or none pass.
use Rattle.std.proofs.Common.{◌≡◌, inl, inr, Bool, true, false, not, List, [], ◌∷◌, refl, ap, filter}
use Rattle.std.specs.List.{list_all}
use Rattle.std.proofs.lemmas.Bool.{and_parts, cases_Bool}

module _ {X : Type 0} (p q : X → Bool) where
  -- p passes nothing that q passes
  pub filter_without : ((x : X) → q x ≡ true → p x ≡ false) → (xs : List X) → filter p (filter q xs) ≡ []
  filter_without h [] = refl
  filter_without h (x ∷ xs) = elim (cases_Bool (q x)) [
    | inl e ↦ rw (e, h x e) (filter_without h xs)
    | inr e ↦ rw e (filter_without h xs)
  ]

  -- q passes all that p passes
  pub filter_through : ((x : X) → p x ≡ true → q x ≡ true) → (xs : List X) → filter p (filter q xs) ≡ filter p xs
  filter_through h [] = refl
  filter_through h (x ∷ xs) = elim (cases_Bool (p x)) [
    | inl e ↦ rw (h x e, e) (ap (λ (l : List X). x ∷ l) (filter_through h xs))
    | inr e ↦ elim (cases_Bool (q x)) [ inl f ↦ rw (f, e) (filter_through h xs) | inr f ↦ rw (f, e) (filter_through h xs) ]
  ]

module _ {X : Type 0} (p : X → Bool) where
  pub filter_all : (xs : List X) → list_all p xs ≡ true → filter p xs ≡ xs
  filter_all [] all = refl
  filter_all (x ∷ xs) all =
      let both = and_parts (p x) (list_all p xs) all in
      rw both.0 (ap (λ (l : List X). x ∷ l) (filter_all xs both.1))

  pub filter_none : (xs : List X) → list_all (λ x. not (p x)) xs ≡ true → filter p xs ≡ []
  filter_none [] all = refl
  filter_none (x ∷ xs) all = elim (cases_Bool (p x)) [
    | inl e ↦ absurd (cc ((and_parts (not (p x)) (list_all (λ x. not (p x)) xs) all).0, ap not e))
    | inr e ↦ rw e (filter_none xs (and_parts (not (p x)) (list_all (λ x. not (p x)) xs) all).1)
  ]
