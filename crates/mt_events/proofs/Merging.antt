-- Two lists of events, merged.
use Rattle.std.proofs.Common.{◌≡◌, ℕ, zero, suc, ◌+◌, ◌<◌, ◌≤◌, ◌||◌, nat_le, nat_lt, Bool, true, false, List, [], ◌∷◌, drop, slice_get, Some, None, refl, ap, sym, ◌∙◌, inl, inr, arith, add-one}
use Rattle.std.specs.List.{list_any}
use Rattle.std.proofs.lemmas.Bool.{and_from, and_parts, cases_Bool, cond-true, cond-false, le-leb, le-ltb, lt-ltb, ltb-false, ltb-true}
use Rattle.mt_events.specs.Rings.{rise, rise_above}
use Rattle.mt_events.specs.Telling.{merged, stay_from, stay_up}
use Rattle.mt_model.specs.declared.messages.message.Happened.{Happened}

pub merged_none : (xs : List Happened) → merged xs [] ≡ xs
merged_none [] = refl
merged_none (x ∷ xs) = refl

pub merged_left : (x : Happened) (xs : List Happened) (y : Happened) (ys : List Happened) → nat_lt x.number y.number ≡ true → merged (x ∷ xs) (y ∷ ys) ≡ x ∷ merged xs (y ∷ ys)
merged_left x xs y ys low = cond-true (nat_lt x.number y.number) (x ∷ merged xs (y ∷ ys)) (y ∷ merged (x ∷ xs) ys) low

pub merged_right : (x : Happened) (xs : List Happened) (y : Happened) (ys : List Happened) → nat_lt x.number y.number ≡ false → merged (x ∷ xs) (y ∷ ys) ≡ y ∷ merged (x ∷ xs) ys
merged_right x xs y ys high = cond-false (nat_lt x.number y.number) (x ∷ merged xs (y ∷ ys)) (y ∷ merged (x ∷ xs) ys) high

-- The events of both.

or_swap : (a b c : Bool) → (a || (b || c)) ≡ (b || (a || c))
or_swap true true c = refl
or_swap true false c = refl
or_swap false b c = refl

or_assoc : (a b c : Bool) → (a || (b || c)) ≡ ((a || b) || c)
or_assoc true b c = refl
or_assoc false b c = refl

or_none : (a : Bool) → a ≡ (a || false)
or_none true = refl
or_none false = refl

module _ (test : Happened → Bool) where
  any_with : (x : Happened) (xs : List Happened) → ((ys : List Happened) → list_any test (merged xs ys) ≡ (list_any test xs || list_any test ys)) → (ys : List Happened)
      → list_any test (merged (x ∷ xs) ys) ≡ (list_any test (x ∷ xs) || list_any test ys)
  any_with x xs rest [] = or_none (list_any test (x ∷ xs))
  any_with x xs rest (y ∷ ys) = elim (cases_Bool (nat_lt x.number y.number)) [
    | inl low ↦
        ap (λ (l : List Happened). list_any test l) (merged_left x xs y ys low)
        ∙ ap (λ b. test x || b) (rest (y ∷ ys))
        ∙ or_assoc (test x) (list_any test xs) (list_any test (y ∷ ys))
    | inr high ↦
        ap (λ (l : List Happened). list_any test l) (merged_right x xs y ys high)
        ∙ ap (λ b. test y || b) (any_with x xs rest ys)
        ∙ or_swap (test y) (list_any test (x ∷ xs)) (list_any test ys)
  ]

  pub any_merged : (xs ys : List Happened) → list_any test (merged xs ys) ≡ (list_any test xs || list_any test ys)
  any_merged [] ys = refl
  any_merged (x ∷ xs) ys = any_with x xs (any_merged xs) ys

-- Order. A list rises on from a number that none of it is below.

rises_from : (n m : ℕ) (es : List Happened) → m ≤ n → rise_above n es ≡ true → stay_from m es ≡ true
rises_from n m [] le up = refl
rises_from n m (e ∷ es) le up =
    let parts = and_parts (nat_lt n e.number) (rise_above e.number es) up in
    let low : n < e.number = ltb-true n e.number parts.0 in
    and_from _ _ (le-leb m e.number (omega (arith, le, low))) (rises_from e.number e.number es (omega arith) parts.1)

rises_all : (es : List Happened) → rise es ≡ true → stay_from 0 es ≡ true
rises_all [] up = refl
rises_all (e ∷ es) up = and_from _ _ (le-leb 0 e.number (omega arith)) (rises_from e.number e.number es (omega arith) up)

mutual_merge : (x : Happened) (xs : List Happened) → ((n : ℕ) (ys : List Happened) → stay_from n xs ≡ true → stay_from n ys ≡ true → stay_from n (merged xs ys) ≡ true)
    → (n : ℕ) (ys : List Happened) → stay_from n (x ∷ xs) ≡ true → stay_from n ys ≡ true → stay_from n (merged (x ∷ xs) ys) ≡ true
mutual_merge x xs rest n [] up down = up
mutual_merge x xs rest n (y ∷ ys) up down =
    let ups = and_parts (nat_le n x.number) (stay_from x.number xs) up in
    let downs = and_parts (nat_le n y.number) (stay_from y.number ys) down in
    elim (cases_Bool (nat_lt x.number y.number)) [
      | inl low ↦
          let below : x.number < y.number = ltb-true x.number y.number low in
          ap (λ (l : List Happened). stay_from n l) (merged_left x xs y ys low)
          ∙ and_from _ _ ups.0 (rest x.number (y ∷ ys) ups.1 (and_from _ _ (le-leb x.number y.number (omega (arith, below))) downs.1))
      | inr high ↦
          let above : y.number ≤ x.number = ltb-false x.number y.number high in
          ap (λ (l : List Happened). stay_from n l) (merged_right x xs y ys high)
          ∙ and_from _ _ downs.0 (mutual_merge x xs rest y.number ys (and_from _ _ (le-leb y.number x.number above) ups.1) downs.1)
    ]

stay_merged : (xs : List Happened) (n : ℕ) (ys : List Happened) → stay_from n xs ≡ true → stay_from n ys ≡ true → stay_from n (merged xs ys) ≡ true
stay_merged [] n ys up down = down
stay_merged (x ∷ xs) n ys up down = mutual_merge x xs (stay_merged xs) n ys up down

pub in_order : (xs ys : List Happened) → rise xs ≡ true → rise ys ≡ true → stay_up (merged xs ys) ≡ true
in_order xs ys up down = stay_merged xs 0 ys (rises_all xs up) (rises_all ys down)

-- The events from a place on.

from_here : (es : List Happened) (i : ℕ) (e : Happened) → slice_get es i ≡ Some e → drop i es ≡ e ∷ drop (suc i) es
from_here [] i e at = absurd (cc)
from_here (x ∷ es) zero e at = let same : x ≡ e = cc in ap (λ (h : Happened). h ∷ es) same
from_here (x ∷ es) (suc i) e at = from_here es i e at

pub from_place : (es : List Happened) (i : ℕ) (e : Happened) → slice_get es i ≡ Some e → drop i es ≡ e ∷ drop (i + 1) es
from_place es i e at = rw add-one (from_here es i e at)

pub past_place : (es : List Happened) (i : ℕ) → slice_get es i ≡ None → drop i es ≡ []
past_place [] zero at = refl
past_place [] (suc i) at = refl
past_place (x ∷ es) zero at = absurd (cc)
past_place (x ∷ es) (suc i) at = past_place es i at

-- The first event from a place on in each of two lists.

module _ (xs ys : List Happened) (i j : ℕ) where
  pub next_left : (x y : Happened) → slice_get xs i ≡ Some x → slice_get ys j ≡ Some y → x.number < y.number → merged (drop i xs) (drop j ys) ≡ x ∷ merged (drop (i + 1) xs) (drop j ys)
  next_left x y at there low =
      let left = from_place xs i x at in
      let right = from_place ys j y there in
      (λ k. merged (left k) (right k)) ∙ merged_left x (drop (i + 1) xs) y (drop (j + 1) ys) (lt-ltb x.number y.number low) ∙ (λ k. x ∷ merged (drop (i + 1) xs) (sym right k))

  pub next_right : (x y : Happened) → slice_get xs i ≡ Some x → slice_get ys j ≡ Some y → y.number ≤ x.number → merged (drop i xs) (drop j ys) ≡ y ∷ merged (drop i xs) (drop (j + 1) ys)
  next_right x y at there high =
      let left = from_place xs i x at in
      let right = from_place ys j y there in
      (λ k. merged (left k) (right k)) ∙ merged_right x (drop (i + 1) xs) y (drop (j + 1) ys) (le-ltb x.number y.number high) ∙ (λ k. y ∷ merged (sym left k) (drop (j + 1) ys))

  pub left_alone : (x : Happened) → slice_get xs i ≡ Some x → slice_get ys j ≡ None → merged (drop i xs) (drop j ys) ≡ x ∷ merged (drop (i + 1) xs) (drop j ys)
  left_alone x at there =
      let right = past_place ys j there in
      (λ k. merged (from_place xs i x at k) (right k)) ∙ ap (λ (l : List Happened). x ∷ l) (sym (merged_none (drop (i + 1) xs))) ∙ (λ k. x ∷ merged (drop (i + 1) xs) (sym right k))

  pub right_alone : (y : Happened) → slice_get xs i ≡ None → slice_get ys j ≡ Some y → merged (drop i xs) (drop j ys) ≡ y ∷ merged (drop i xs) (drop (j + 1) ys)
  right_alone y at there =
      let left = past_place xs i at in
      (λ k. merged (left k) (from_place ys j y there k)) ∙ (λ k. y ∷ merged (sym left k) (drop (j + 1) ys))

  pub none_next : slice_get xs i ≡ None → slice_get ys j ≡ None → merged (drop i xs) (drop j ys) ≡ []
  none_next at there = λ k. merged (past_place xs i at k) (past_place ys j there k)
