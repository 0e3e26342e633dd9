-- Two lists that are gone over by their places.
use Rattle.std.proofs.Common.{◌≡◌, inl, inr, ℕ, ◌+◌, ◌≤◌, Bool, true, false, not, List, Option, Some, None, sym, ap, ◌∙◌, take, length, slice_get, refl, is_some}
use Rattle.std.specs.Borrow.{Bor}
use Rattle.std.specs.Option.{option_copied}
use Rattle.std.proofs.lemmas.List.{take_all, take_more_same}
use Rattle.std.proofs.lemmas.Option.{get_or_from_slice_get, slice_get_cases, slice_get_within}

-- there is nothing from a place on where nothing stands there
past : {X : Type 0} (xs : List X) (n : ℕ) → slice_get xs n ≡ None → length xs ≤ n
past xs n got = elim (slice_get_cases xs n).1 [
  | inl there ↦ absurd (let clash : Some there.0 ≡ None = sym there.2 ∙ got in cc)
  | inr behind ↦ behind.0
]

module _ {X : Type 0} (xs ys : List X) (n : ℕ) where
  -- one more is the same
  pub next_same : (x y : X) → slice_get xs n ≡ Some x → slice_get ys n ≡ Some y → x ≡ y → take n xs ≡ take n ys → take (n + 1) xs ≡ take (n + 1) ys
  next_same x y mine theirs same before =
      take_more_same xs ys n x (slice_get_within xs n x mine) (slice_get_within ys n y theirs) before
      (get_or_from_slice_get xs n x x mine ∙ same ∙ sym (get_or_from_slice_get ys n y x theirs))

  -- there are no more
  pub all_same : slice_get xs n ≡ None → slice_get ys n ≡ None → take n xs ≡ take n ys → xs ≡ ys
  all_same mine theirs before = sym (take_all n xs (past xs n mine)) ∙ before ∙ take_all n ys (past ys n theirs)

-- one goes on where the other ends
one_goes_on : {X : Type 0} (xs ys : List X) (n : ℕ) (x : X) → slice_get xs n ≡ Some x → slice_get ys n ≡ None → xs ≡ ys → ⊥
one_goes_on {X} xs ys n x mine theirs same = let clash : Some x ≡ None = sym mine ∙ ap (λ (l : List X). slice_get l n) same ∙ theirs in cc

-- One has ended: the lists are the same exactly where the other has ended too.
pub ends_too : {X : Type 0} (xs ys : List X) (n : ℕ) (o : Option (Bor X)) (r : Bool) → is_some o ≡ not r → option_copied o ≡ slice_get ys n
    → slice_get xs n ≡ None → take n xs ≡ take n ys → (r ≡ true → xs ≡ ys) × (xs ≡ ys → r ≡ true)
ends_too xs ys n None true is got none before = (λ yes. all_same xs ys n none (sym got) before, λ same. refl)
ends_too xs ys n None false is got none before = absurd (cc)
ends_too xs ys n (Some y) true is got none before = absurd (cc)
ends_too xs ys n (Some y) false is got none before = (λ yes. absurd (cc), λ same. absurd (one_goes_on ys xs n y.now (sym got) none (sym same)))
