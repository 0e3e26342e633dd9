-- Lists that are changed item by item, filtered and searched.
use Rattle.std.proofs.Common.{◌≡◌, ◌||◌, inl, inr, Bool, true, false, List, [], ◌∷◌, Some, refl, ap, ◌∙◌, filter, map, if◌then◌else◌}
use Rattle.std.specs.List.{find, list_all, list_any}
use Rattle.std.specs.Option.{option_map}
use Rattle.std.proofs.lemmas.Bool.{and_parts, cases_Bool}

pub impossible : {A : Type 0} → false ≡ true → A
impossible is = absurd cc

module _ {X Y : Type 0} where
  pub chosen : (f : X → Y) (b : Bool) (x y : X) → (if b then f x else f y) ≡ f (if b then x else y)
  chosen f true x y = refl
  chosen f false x y = refl

  pub chosen_by : (f : X → Y) (b : Bool) (x y : X) (u v : Y) → (b ≡ true → u ≡ f x) → (b ≡ false → v ≡ f y) → (if b then u else v) ≡ f (if b then x else y)
  chosen_by f true x y u v first second = first refl
  chosen_by f false x y u v first second = second refl

module _ {X : Type 0} (change : X → X) (p : X → Bool) (same : (x : X) → p (change x) ≡ p x) where
  pub filter_changed : (xs : List X) → filter p (map change xs) ≡ map change (filter p xs)
  filter_changed [] = refl
  filter_changed (x ∷ xs) = (λ i. if same x i then change x ∷ filter_changed xs i else filter_changed xs i) ∙ chosen (map change) (p x) (x ∷ filter p xs) (filter p xs)

  pub any_changed : (xs : List X) → list_any p (map change xs) ≡ list_any p xs
  any_changed [] = refl
  any_changed (x ∷ xs) = λ i. same x i || any_changed xs i

  pub find_changed : (xs : List X) → find p (map change xs) ≡ option_map change (find p xs)
  find_changed [] = refl
  find_changed (x ∷ xs) = (λ i. if same x i then Some (change x) else find_changed xs i) ∙ chosen (option_map change) (p x) (Some x) (find p xs)

pub same_list : {X : Type 0} (xs : List X) → map (λ (x : X). x) xs ≡ xs
same_list [] = refl
same_list (x ∷ xs) = ap (λ (rest : List _). x ∷ rest) (same_list xs)

-- where all that pass stay as they are
module _ {X : Type 0} (change : X → X) (p : X → Bool) (same : (x : X) → p (change x) ≡ p x) (stays : (x : X) → p x ≡ true → change x ≡ x) where
  pub filter_spared : (xs : List X) → filter p (map change xs) ≡ filter p xs
  filter_spared [] = refl
  filter_spared (x ∷ xs) =
      let rest = filter_spared xs in
      elim (cases_Bool (p x)) [
        | inl passes ↦ let also = same x ∙ passes in rw (also, passes) (λ i. stays x passes i ∷ rest i)
        | inr fails ↦ let also = same x ∙ fails in rw (also, fails) rest
      ]

module _ {X : Type 0} where
  -- two tests that agree on every item of a list
  pub filter_agrees : (p q r : X → Bool) → ((x : X) → r x ≡ true → p x ≡ q x) → (xs : List X) → list_all r xs ≡ true → filter p xs ≡ filter q xs
  filter_agrees p q r each [] all = refl
  filter_agrees p q r each (x ∷ xs) all =
      let both = and_parts (r x) (list_all r xs) all in
      let rest = filter_agrees p q r each xs both.1 in
      λ i. if each x both.0 i then x ∷ rest i else rest i

  -- where each item stays, all do
  pub all_stay : (change : X → X) (p : X → Bool) → ((x : X) → p x ≡ true → change x ≡ x) → (xs : List X) → list_all p xs ≡ true → map change xs ≡ xs
  all_stay change p each [] all = refl
  all_stay change p each (x ∷ xs) all =
      let both = and_parts (p x) (list_all p xs) all in
      λ i. each x both.0 i ∷ all_stay change p each xs both.1 i

  -- of those that pass, all are kept, or none is

  pub filter_all : (p q : X → Bool) → ((x : X) → q x ≡ true → p x ≡ true) → (xs : List X) → filter q (filter p xs) ≡ filter q xs
  filter_all p q each [] = refl
  filter_all p q each (x ∷ xs) =
      let rest = filter_all p q each xs in
      elim (cases_Bool (q x)) [
        | inl passes ↦ let kept = each x passes in rw (kept, passes) (ap (λ (ys : List X). x ∷ ys) rest)
        | inr fails ↦ elim (cases_Bool (p x)) [ inl kept ↦ rw (kept, fails) rest | inr gone ↦ rw (gone, fails) rest ]
      ]

  pub filter_none : (p q : X → Bool) → ((x : X) → q x ≡ true → p x ≡ false) → (xs : List X) → filter q (filter p xs) ≡ []
  filter_none p q each [] = refl
  filter_none p q each (x ∷ xs) =
      let rest = filter_none p q each xs in
      elim (cases_Bool (q x)) [
        | inl passes ↦ let gone = each x passes in rw gone rest
        | inr fails ↦ elim (cases_Bool (p x)) [ inl kept ↦ rw (kept, fails) rest | inr gone ↦ rw gone rest ]
      ]
