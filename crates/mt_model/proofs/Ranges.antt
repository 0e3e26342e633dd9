-- A range of a list, from where one test stops to where another does, is a filter of the list.
use Rattle.std.proofs.Common.{◌≡◌, ℕ, zero, suc, ◌+◌, ◌-◌, ◌≤◌, inl, inr, not, subst, Bool, true, false, List, [], ◌∷◌, refl, sym, ap, ◌∙◌, length, filter, get_or, take, drop, get_or-drop, length-drop, arith}
use Rattle.std.specs.List.{AllWithin}
use Rattle.std.proofs.lemmas.Bool.{both_ways, cases_lt, not-false, not-true}
use Rattle.std.specs.List.Sorted.{IsPartitionPoint}

module _ (T : Type 0) where
  -- a filter passes over what fails at the head of a list
  filter_past : (p : T → Bool) (xs : List T) (n : ℕ) → AllWithin (λ x. p x ≡ false) xs 0 n → n ≤ length xs → filter p xs ≡ filter p (drop n xs)
  filter_past p xs zero h le = refl
  filter_past p [] (suc n) h le = absurd (omega arith)
  filter_past p (x ∷ xs) (suc n) h le = rw (h zero x (omega arith) (omega arith)) (filter_past p xs n (λ k d low lt. h (suc k) d (omega arith) (omega arith)) (omega arith))

  filter_head : (p : T → Bool) (xs : List T) (n : ℕ) → n ≤ length xs → AllWithin (λ x. p x ≡ true) xs 0 n → AllWithin (λ x. p x ≡ false) xs n (length xs) → filter p xs ≡ take n xs
  filter_head p [] zero le h g = refl
  filter_head p [] (suc n) le h g = absurd (omega arith)
  filter_head p (x ∷ xs) zero le h g = rw (g zero x (omega arith) (omega arith)) (filter_head p xs zero (omega arith) (λ k d low lt. absurd (omega arith)) (λ k d low lt. g (suc k) d (omega arith) (omega arith)))
  filter_head p (x ∷ xs) (suc n) le h g = rw (h zero x (omega arith) (omega arith)) (ap (λ (ys : List T). x ∷ ys) (filter_head p xs n (omega arith) (λ k d low lt. h (suc k) d (omega arith) (omega arith)) (λ k d low lt. g (suc k) d (omega arith) (omega arith))))

  filter_tail : (p : T → Bool) (xs : List T) (n : ℕ) → AllWithin (λ x. p x ≡ false) xs 0 n → AllWithin (λ x. p x ≡ true) xs n (length xs) → filter p xs ≡ drop n xs
  filter_tail p [] zero h g = refl
  filter_tail p [] (suc n) h g = refl
  filter_tail p (x ∷ xs) zero h g = rw (g zero x (omega arith) (omega arith)) (ap (λ (ys : List T). x ∷ ys) (filter_tail p xs zero (λ k d low lt. absurd (omega arith)) (λ k d low lt. g (suc k) d (omega arith) (omega arith))))
  filter_tail p (x ∷ xs) (suc n) h g = rw (h zero x (omega arith) (omega arith)) (filter_tail p xs n (λ k d low lt. h (suc k) d (omega arith) (omega arith)) (λ k d low lt. g (suc k) d (omega arith) (omega arith)))

  -- what passes at the front of a list, up to where it does no more
  pub front_part : (p : T → Bool) (xs : List T) (n : ℕ) → n ≤ length xs → IsPartitionPoint (λ x. p x ≡ true) (λ x. p x ≡ false) xs n → take n xs ≡ filter p xs
  front_part p xs n le point = sym (filter_head p xs n le point.0 point.1)

  -- and what fails behind it
  pub back_part : (p : T → Bool) (xs : List T) (n : ℕ) → IsPartitionPoint (λ x. not (p x) ≡ true) (λ x. not (p x) ≡ false) xs n → drop n xs ≡ filter p xs
  back_part p xs n point = sym (filter_tail p xs n (λ k d low lt. not-true (p (get_or xs k d)) (point.0 k d low lt)) (λ k d low lt. not-false (p (get_or xs k d)) (point.1 k d low lt)))

  -- the first of two points comes first where nothing is on both sides
  pub points_in_order : (before no_later : T → Bool) → ((x : T) → before x ≡ true → no_later x ≡ true)
      → (xs : List T) (begin end : ℕ) → begin ≤ length xs → IsPartitionPoint (λ x. before x ≡ true) (λ x. before x ≡ false) xs begin
      → IsPartitionPoint (λ x. no_later x ≡ true) (λ x. no_later x ≡ false) xs end → begin ≤ end
  points_in_order before no_later early [] begin end le first second = omega arith
  points_in_order before no_later early (x ∷ xs) begin end le first second = elim (cases_lt end begin) [
    | inl lt ↦ absurd (both_ways (no_later (get_or (x ∷ xs) end x)) (second.1 end x (omega arith) (omega arith)) (early (get_or (x ∷ xs) end x) (first.0 end x (omega arith) lt)))
    | inr ge ↦ ge
  ]

  -- what passes stands between what is before it and what is not later
  module _ (before no_later passes : T → Bool)
      (before_not : (x : T) → before x ≡ true → passes x ≡ false)
      (later_not : (x : T) → no_later x ≡ false → passes x ≡ false)
      (between : (x : T) → before x ≡ false → no_later x ≡ true → passes x ≡ true) where
    range_part : (xs : List T) (begin end : ℕ)
        → begin ≤ length xs → end ≤ length (drop begin xs)
        → IsPartitionPoint (λ x. before x ≡ true) (λ x. before x ≡ false) xs begin
        → IsPartitionPoint (λ x. no_later x ≡ true) (λ x. no_later x ≡ false) (drop begin xs) end
        → filter passes xs ≡ take end (drop begin xs)
    range_part xs begin end b e first second =
        filter_past passes xs begin (λ k d low lt. before_not (get_or xs k d) (first.0 k d low lt)) b
        ∙ filter_head passes (drop begin xs) end e
        (λ k d low lt.
        let at : get_or (drop begin xs) k d ≡ get_or xs (begin + k) d = get_or-drop begin xs k d in
        let short : length (drop begin xs) + begin ≡ length xs = omega (arith, length-drop begin xs) in
        let early : before (get_or (drop begin xs) k d) ≡ false = rw at (first.1 (begin + k) d (omega arith) (omega arith)) in
        between (get_or (drop begin xs) k d) early (second.0 k d low lt))
        (λ k d low lt. later_not (get_or (drop begin xs) k d) (second.1 k d low lt))

    -- where what is left behind the beginning is called by another name
    pub range_rest : (xs rest : List T) (begin end : ℕ)
        → rest ≡ drop begin xs → begin ≤ length xs → end ≤ length rest
        → IsPartitionPoint (λ x. before x ≡ true) (λ x. before x ≡ false) xs begin
        → IsPartitionPoint (λ x. no_later x ≡ true) (λ x. no_later x ≡ false) rest end
        → take end rest ≡ filter passes xs
    range_rest xs rest begin end same b e first second =
        let whole : (left : List T) → left ≡ drop begin xs → end ≤ length left
        → IsPartitionPoint (λ x. no_later x ≡ true) (λ x. no_later x ≡ false) left end
        → take end left ≡ filter passes xs
        = λ left is. subst (λ (l : List T). end ≤ length l
        → IsPartitionPoint (λ x. no_later x ≡ true) (λ x. no_later x ≡ false) l end
        → take end l ≡ filter passes xs) (sym is) (λ f s. sym (range_part xs begin end b f first s)) in
        whole rest same e second

    -- the same where both ends are told from the beginning of the list
    pub range_between : (xs : List T) (begin end : ℕ) → begin ≤ end → end ≤ length xs
        → IsPartitionPoint (λ x. before x ≡ true) (λ x. before x ≡ false) xs begin
        → IsPartitionPoint (λ x. no_later x ≡ true) (λ x. no_later x ≡ false) xs end
        → take (end - begin) (drop begin xs) ≡ filter passes xs
    range_between xs begin end order within first second =
        let size : length (drop begin xs) + begin ≡ length xs = omega (arith, length-drop begin xs) in
        sym (range_part xs begin (end - begin) (omega arith) (omega arith) first (
          (λ k d low lt. rw (get_or-drop begin xs k d) (second.0 (begin + k) d (omega arith) (omega arith))),
          (λ k d low lt. rw (get_or-drop begin xs k d) (second.1 (begin + k) d (omega arith) (omega arith))),
        ))
