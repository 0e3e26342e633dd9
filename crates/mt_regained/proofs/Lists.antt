-- Members of lists, and lists that are put together of others.
use Rattle.std.proofs.Common.{◌≡◌, ◌∙◌, refl, sym, ap, subst, ◌⊎◌, inl, inr, Bool, true, false, List, [], ◌∷◌, ◌++◌, filter, map}
use Rattle.std.proofs.lemmas.Bool.{and_from, and_parts, cases_Bool, or_cases}
use Rattle.std.specs.List.{flat_map, list_all, list_any}

abbrev pub IsIn : {X : Type 0} → X → List X → Type 0
IsIn x [] = ⊥
IsIn x (y ∷ ys) = (x ≡ y) ⊎ IsIn x ys

-- each of a list
abbrev pub Each : {X : Type 0} → (X → Type 0) → List X → Type 0
Each P [] = true ≡ true
Each P (x ∷ xs) = P x × Each P xs

pub each-of : {X : Type 0} (P : X → Type 0) (xs : List X) → Each P xs → (x : X) → IsIn x xs → P x
each-of P [] each x there = absurd there
each-of P (y ∷ ys) each x (inl is) = subst P (sym is) each.0
each-of P (y ∷ ys) each x (inr later) = each-of P ys each.1 x later

pub each-all : {X : Type 0} (P : X → Type 0) (xs : List X) → ((x : X) → IsIn x xs → P x) → Each P xs
each-all P [] every = refl
each-all P (x ∷ xs) every = (every x (inl refl), each-all P xs (λ y there. every y (inr there)))

pub each-same : {X : Type 0} (P Q : X → Type 0) → ((x : X) → P x → Q x) → (xs : List X) → Each P xs → Each Q xs
each-same P Q on [] each = each
each-same P Q on (x ∷ xs) each = (on x each.0, each-same P Q on xs each.1)

pub tested : {X : Type 0} (test : X → Bool) (xs : List X) → list_all test xs ≡ true → (x : X) → IsIn x xs → test x ≡ true
tested test [] all x there = absurd there
tested test (y ∷ ys) all x (inl is) = ap test is ∙ (and_parts (test y) (list_all test ys) all).0
tested test (y ∷ ys) all x (inr later) = tested test ys (and_parts (test y) (list_all test ys) all).1 x later

pub in-left : {X : Type 0} (x : X) (xs ys : List X) → IsIn x xs → IsIn x (xs ++ ys)
in-left x [] ys there = absurd there
in-left x (y ∷ xs) ys (inl is) = inl is
in-left x (y ∷ xs) ys (inr later) = inr (in-left x xs ys later)

pub in-right : {X : Type 0} (x : X) (xs ys : List X) → IsIn x ys → IsIn x (xs ++ ys)
in-right x [] ys there = there
in-right x (y ∷ xs) ys there = inr (in-right x xs ys there)

pub in-map : {X Y : Type 0} (f : X → Y) (x : X) (xs : List X) → IsIn x xs → IsIn (f x) (map f xs)
in-map f x [] there = absurd there
in-map f x (y ∷ xs) (inl is) = inl (ap f is)
in-map f x (y ∷ xs) (inr later) = inr (in-map f x xs later)

pub in-flat : {X Y : Type 0} (f : X → List Y) (x : X) (y : Y) (xs : List X) → IsIn x xs → IsIn y (f x) → IsIn y (flat_map f xs)
in-flat f x y [] there inside = absurd there
in-flat f x y (z ∷ xs) (inl is) inside = in-left y (f z) (flat_map f xs) (subst (λ w. IsIn y (f w)) is inside)
in-flat f x y (z ∷ xs) (inr later) inside = in-right y (f z) (flat_map f xs) (in-flat f x y xs later inside)

-- a test that only equals pass
pub in-any : {X : Type 0} (same : X → Bool) (x : X) → ((y : X) → same y ≡ true → x ≡ y) → (xs : List X) → list_any same xs ≡ true → IsIn x xs
in-any same x equal [] any = absurd cc
in-any same x equal (y ∷ ys) any = elim (or_cases (same y) (list_any same ys) any) [
  | inl here ↦ inl (equal y here)
  | inr later ↦ inr (in-any same x equal ys later)
]

-- Tests of lists.

pub all-weaker : {X : Type 0} (p q : X → Bool) → ((x : X) → p x ≡ true → q x ≡ true) → (xs : List X) → list_all p xs ≡ true → list_all q xs ≡ true
all-weaker p q each [] all = refl
all-weaker p q each (x ∷ xs) all = let both = and_parts (p x) (list_all p xs) all in and_from _ _ (each x both.0) (all-weaker p q each xs both.1)

pub all-both : {X : Type 0} (p q r : X → Bool) → ((x : X) → p x ≡ true → q x ≡ true → r x ≡ true) → (xs : List X) → list_all p xs ≡ true → list_all q xs ≡ true → list_all r xs ≡ true
all-both p q r each [] first second = refl
all-both p q r each (x ∷ xs) first second =
    let one = and_parts (p x) (list_all p xs) first in
    let two = and_parts (q x) (list_all q xs) second in
    and_from _ _ (each x one.0 two.0) (all-both p q r each xs one.1 two.1)

pub all-filter : {X : Type 0} (p keep : X → Bool) (xs : List X) → list_all p xs ≡ true → list_all p (filter keep xs) ≡ true
all-filter p keep [] all = refl
all-filter p keep (x ∷ xs) all =
    let both = and_parts (p x) (list_all p xs) all in
    elim (cases_Bool (keep x)) [
      | inl kept ↦ rw kept (and_from _ _ both.0 (all-filter p keep xs both.1))
      | inr gone ↦ rw gone (all-filter p keep xs both.1)
    ]

pub all-kept : {X : Type 0} (keep : X → Bool) (xs : List X) → list_all keep (filter keep xs) ≡ true
all-kept keep [] = refl
all-kept keep (x ∷ xs) = elim (cases_Bool (keep x)) [
  | inl kept ↦ rw kept (and_from _ _ kept (all-kept keep xs))
  | inr gone ↦ rw gone (all-kept keep xs)
]

pub all-append : {X : Type 0} (p : X → Bool) (xs ys : List X) → list_all p xs ≡ true → list_all p ys ≡ true → list_all p (xs ++ ys) ≡ true
all-append p [] ys first second = second
all-append p (x ∷ xs) ys first second = let both = and_parts (p x) (list_all p xs) first in and_from _ _ both.0 (all-append p xs ys both.1 second)

pub all-flat : {X Y : Type 0} (p : Y → Bool) (f : X → List Y) (xs : List X) → Each (λ x. list_all p (f x) ≡ true) xs → list_all p (flat_map f xs) ≡ true
all-flat p f [] each = refl
all-flat p f (x ∷ xs) each = all-append p (f x) (flat_map f xs) each.0 (all-flat p f xs each.1)

-- What is kept.

pub filter-append : {X : Type 0} (keep : X → Bool) (xs ys : List X) → filter keep (xs ++ ys) ≡ filter keep xs ++ filter keep ys
filter-append keep [] ys = refl
filter-append keep (x ∷ xs) ys = elim (cases_Bool (keep x)) [
  | inl kept ↦ rw kept (ap (λ (l : List _). x ∷ l) (filter-append keep xs ys))
  | inr gone ↦ rw gone (filter-append keep xs ys)
]

pub filter-all : {X : Type 0} (keep : X → Bool) (xs : List X) → list_all keep xs ≡ true → filter keep xs ≡ xs
filter-all keep [] all = refl
filter-all keep (x ∷ xs) all = let both = and_parts (keep x) (list_all keep xs) all in rw both.0 (ap (λ (l : List _). x ∷ l) (filter-all keep xs both.1))

-- none is kept, where all pass a test that what is kept fails
pub filter-none : {X : Type 0} (p keep : X → Bool) → ((x : X) → p x ≡ true → keep x ≡ false) → (xs : List X) → list_all p xs ≡ true → filter keep xs ≡ []
filter-none p keep each [] all = refl
filter-none p keep each (x ∷ xs) all = let both = and_parts (p x) (list_all p xs) all in rw (each x both.0) (filter-none p keep each xs both.1)

pub filter-same : {X : Type 0} (p keep other : X → Bool) → ((x : X) → p x ≡ true → keep x ≡ other x) → (xs : List X) → list_all p xs ≡ true → filter keep xs ≡ filter other xs
filter-same p keep other each [] all = refl
filter-same p keep other each (x ∷ xs) all =
    let both = and_parts (p x) (list_all p xs) all in
    elim (cases_Bool (other x)) [
      | inl kept ↦ rw (each x both.0, kept) (ap (λ (l : List _). x ∷ l) (filter-same p keep other each xs both.1))
      | inr gone ↦ rw (each x both.0, gone) (filter-same p keep other each xs both.1)
    ]

-- one test after a weaker one
pub filter-stronger : {X : Type 0} (weak strong : X → Bool) → ((x : X) → strong x ≡ true → weak x ≡ true) → (xs : List X) → filter strong (filter weak xs) ≡ filter strong xs
filter-stronger weak strong implied [] = refl
filter-stronger weak strong implied (x ∷ xs) = elim (cases_Bool (strong x)) [
  | inl kept ↦ rw (implied x kept, kept) (ap (λ (l : List _). x ∷ l) (filter-stronger weak strong implied xs))
  | inr gone ↦ elim (cases_Bool (weak x)) [
    | inl its ↦ rw (its, gone) (filter-stronger weak strong implied xs)
    | inr none ↦ rw (none, gone) (filter-stronger weak strong implied xs)
  ]
]
