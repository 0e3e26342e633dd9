-- Lists whose elements are kept by a test, and places that are the same.
use Rattle.std.proofs.Common.{◌≡◌, ◌∙◌, refl, sym, ap, inl, inr, ◌&&◌, ◌==◌, Bool, true, false, List, [], ◌∷◌, Option, Some, None, filter}
use Rattle.std.proofs.lemmas.Bool.{and_from, and_parts, cases_Bool, eqb-true, or_cases}
use Rattle.std.specs.List.{find, list_all, list_any}
use Rattle.mt_model.specs.rows.Sight.{same_place}
use Rattle.mt_model.specs.declared.rows.place.Place.{Place}

-- those that pass two tests
pub filter-both : {X : Type 0} (p q : X → Bool) (xs : List X) → filter (λ x. p x && q x) xs ≡ filter q (filter p xs)
filter-both p q [] = refl
filter-both {X = X} p q (x ∷ xs) = elim (cases_Bool (p x)) [
  | inl passes ↦ elim (cases_Bool (q x)) [ inl both ↦ rw (passes, both) (ap (λ (l : List X). x ∷ l) (filter-both p q xs)) | inr one ↦ rw (passes, one) (filter-both p q xs) ]
  | inr fails ↦ rw fails (filter-both p q xs)
]

-- the first that is kept

abbrev pub first_of : {X : Type 0} → List X → Option X
first_of [] = None
first_of (x ∷ xs) = Some x

pub first_found : {X : Type 0} (p : X → Bool) (xs : List X) → find p xs ≡ first_of (filter p xs)
first_found p [] = refl
first_found p (x ∷ xs) = elim (cases_Bool (p x)) [
  | inl here ↦ rw here refl
  | inr later ↦ rw later (first_found p xs)
]

pub place-same : (p q : Place) → same_place p q ≡ true → p ≡ q
place-same p q same =
    let outer = and_parts (p.endpoint == q.endpoint) (p.cluster == q.cluster && p.leaf == q.leaf) same in
    let inner = and_parts (p.cluster == q.cluster) (p.leaf == q.leaf) outer.1 in
    let endpoint = eqb-true p.endpoint q.endpoint outer.0 in
    let cluster = eqb-true p.cluster q.cluster inner.0 in
    let leaf = eqb-true p.leaf q.leaf inner.1 in
    λ i. record { endpoint = endpoint i; cluster = cluster i; leaf = leaf i }

-- those that are kept pass a test, where each that passes another and is kept does
pub all_kept : {X : Type 0} (p q keep : X → Bool) → ((x : X) → keep x ≡ true → p x ≡ true → q x ≡ true) → (xs : List X) → list_all p xs ≡ true → list_all q (filter keep xs) ≡ true
all_kept p q keep each [] all = refl
all_kept p q keep each (x ∷ xs) all =
    let both = and_parts (p x) (list_all p xs) all in
    elim (cases_Bool (keep x)) [
      | inl kept ↦ rw kept (and_from _ _ (each x kept both.0) (all_kept p q keep each xs both.1))
      | inr gone ↦ rw gone (all_kept p q keep each xs both.1)
    ]

pub none_kept : {X : Type 0} (p keep : X → Bool) → ((x : X) → p x ≡ true → keep x ≡ false) → (xs : List X) → list_all p xs ≡ true → filter keep xs ≡ []
none_kept p keep each [] all = refl
none_kept p keep each (x ∷ xs) all =
    let both = and_parts (p x) (list_all p xs) all in
    rw (each x both.0) (none_kept p keep each xs both.1)

-- a place that is listed and passes a test is among those that pass it
pub picked : (p keep : Place → Bool) (place : Place) (places : List Place) → keep place ≡ true → list_any (same_place place) places ≡ true → list_all p (filter keep places) ≡ true → p place ≡ true
picked p keep place [] kept listed all = absurd cc
picked p keep place (first ∷ places) kept listed all = elim (or_cases (same_place place first) (list_any (same_place place) places) listed) [
  | inl here ↦
      let is : first ≡ place = sym (place-same place first here) in
      let its : keep first ≡ true = ap keep is ∙ kept in
      let both : (p first && list_all p (filter keep places)) ≡ true = rw its at all in
      ap p (sym is) ∙ (and_parts (p first) (list_all p (filter keep places)) both).0
  | inr later ↦ elim (cases_Bool (keep first)) [
    | inl its ↦
        let both : (p first && list_all p (filter keep places)) ≡ true = rw its at all in
        picked p keep place places kept later (and_parts (p first) (list_all p (filter keep places)) both).1
    | inr not_its ↦
        let rest : list_all p (filter keep places) ≡ true = rw not_its at all in
        picked p keep place places kept later rest
  ]
]
