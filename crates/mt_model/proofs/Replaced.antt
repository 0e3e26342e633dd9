-- A part of a list that is replaced, item by item: the new ones are put over the old ones, or between what stands before and behind these.
use Rattle.std.proofs.Common.{◌≡◌, ℕ, ◌+◌, ◌-◌, ◌≤◌, inl, inr, List, [], ◌∷◌, ◌++◌, sym, ap, ◌∙◌, length, min, max, nat_lt, take, drop, length-take-le, append_assoc, append-nil, arith, if◌then◌else◌}
use Rattle.std.proofs.lemmas.Bool.{cases_lt, lt-ltb, le-ltb}
use Rattle.std.proofs.lemmas.List.{drop-drop, drop_at, length_push, take_at}

module _ {X : Type 0} where
  -- the list in which an item is put here, where so much goes on behind it
  abbrev pub put_in : ℕ → ℕ → X → List X → List X
  put_in at next item items = take at items ++ item ∷ drop next items

  long : (items : List X) (at : ℕ) (item : X) → at ≤ length items → length (take at items ++ item ∷ []) ≡ at + 1
  long items at item le = length_push (take at items) item ∙ ap (λ (n : ℕ). n + 1) (length-take-le at items le)

  regrouped : (items : List X) (at next : ℕ) (item : X) → put_in at next item items ≡ (take at items ++ item ∷ []) ++ drop next items
  regrouped items at next item = sym (append_assoc (take at items) (item ∷ []) (drop next items))

  front_of : (items new : List X) (at next : ℕ) (item : X) → at ≤ length items → new ≡ put_in at next item items → take (at + 1) new ≡ take at items ++ item ∷ []
  front_of items new at next item le is = ap (take (at + 1)) (is ∙ regrouped items at next item) ∙ take_at (take at items ++ item ∷ []) (drop next items) (at + 1) (long items at item le)

  behind_of : (items new : List X) (at next : ℕ) (item : X) → at ≤ length items → new ≡ put_in at next item items → drop (at + 1) new ≡ drop next items
  behind_of items new at next item le is = ap (drop (at + 1)) (is ∙ regrouped items at next item) ∙ drop_at (take at items ++ item ∷ []) (drop next items) (at + 1) (long items at item le)

  -- what stands in front of the next place, with the rest
  pub front_more : (items new rest all : List X) (at next : ℕ) (item : X) → at ≤ length items → new ≡ put_in at next item items
      → take at items ++ item ∷ rest ≡ all → take (at + 1) new ++ rest ≡ all
  front_more items new rest all at next item le is whole =
      ap (λ (l : List X). l ++ rest) (front_of items new at next item le is) ∙ append_assoc (take at items) (item ∷ []) rest ∙ whole

  -- what stands behind it, of what was there
  pub behind_more : (items new old : List X) (at end : ℕ) (item : X) → at ≤ length items
      → new ≡ put_in at (if nat_lt at end then at + 1 else at) item items → drop at items ≡ drop (min at end) old → drop (at + 1) new ≡ drop (min (at + 1) end) old
  behind_more items new old at end item le is there = elim (cases_lt at end) [
    | inl lt ↦
        let over : new ≡ put_in at (at + 1) item items = rw (lt-ltb at end lt) at is in
        let one : min at end + 1 ≡ min (at + 1) end = omega arith in
        behind_of items new at (at + 1) item le over ∙ sym (drop-drop 1 at items) ∙ ap (drop 1) there ∙ drop-drop 1 (min at end) old ∙ ap (λ (n : ℕ). drop n old) one
    | inr ge ↦
        let between : new ≡ put_in at at item items = rw (le-ltb at end ge) at is in
        let same : min at end ≡ min (at + 1) end = omega arith in
        behind_of items new at at item le between ∙ there ∙ ap (λ (n : ℕ). drop n old) same
  ]

  -- and what is left once the rest of what was there is taken away
  pub replaced : (items new old all : List X) (at end : ℕ) → new ≡ take at items ++ drop (max at end) items
      → drop at items ≡ drop (min at end) old → take at items ++ [] ≡ all → new ≡ all ++ drop end old
  replaced items new old all at end is there front =
      let rest : at + (max at end - at) ≡ max at end = omega arith in
      let whole : min at end + (max at end - at) ≡ end = omega arith in
      let behind : drop (max at end) items ≡ drop end old =
      ap (λ (n : ℕ). drop n items) (sym rest) ∙ sym (drop-drop (max at end - at) at items) ∙ ap (drop (max at end - at)) there
      ∙ drop-drop (max at end - at) (min at end) old ∙ ap (λ (n : ℕ). drop n old) whole in
      is ∙ (λ i. (sym (append-nil (take at items)) ∙ front) i ++ behind i)
