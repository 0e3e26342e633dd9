-- A list that is gone over by its places.
use Rattle.std.proofs.Common.{◌≡◌, inl, inr, ℕ, suc, ◌+◌, ◌<◌, List, [], ◌∷◌, ◌++◌, Some, None, sym, ap, ◌∙◌, drop, length, append_assoc, add-one, append-nil, slice_get}
use Rattle.std.proofs.Math.Seq.{drop-cons}
use Rattle.std.proofs.lemmas.List.{drop_all}
use Rattle.std.proofs.lemmas.Option.{get_or_from_slice_get, slice_get_cases, slice_get_within}

module _ {X : Type 0} (xs kept : List X) (n : ℕ) where
  -- one more
  pub next_kept : (x : X) → slice_get xs n ≡ Some x → kept ++ drop n xs ≡ xs → (kept ++ x ∷ []) ++ drop (n + 1) xs ≡ xs
  next_kept x got whole =
      let within : n < length xs = slice_get_within xs n x got in
      let rest : drop n xs ≡ x ∷ drop (suc n) xs = drop-cons xs n x within ∙ ap (λ (y : X). y ∷ drop (suc n) xs) (get_or_from_slice_get xs n x x got) in
      append_assoc kept (x ∷ []) (drop (n + 1) xs)
      ∙ ap (λ (k : ℕ). kept ++ (x ∷ drop k xs)) (add-one n)
      ∙ ap (λ (l : List X). kept ++ l) (sym rest)
      ∙ whole

  -- no more
  pub all_kept : slice_get xs n ≡ None → kept ++ drop n xs ≡ xs → kept ≡ xs
  all_kept got whole = elim (slice_get_cases xs n).1 [
    | inl there ↦ absurd (let clash : Some there.0 ≡ None = sym there.2 ∙ got in cc)
    | inr past ↦ sym (append-nil kept) ∙ ap (λ (l : List X). kept ++ l) (sym (drop_all n xs past.0)) ∙ whole
  ]
