-- A list that ascends by a number is what its items of each number are, one number after the other.
use Rattle.std.proofs.Common.{◌≡◌, ◌∙◌, refl, sym, ap, ℕ, zero, suc, ◌+◌, ◌<◌, ◌≤◌, inl, inr, Bool, true, false, not, ◌&&◌, ◌==◌, nat_le, nat_lt, List, [], ◌∷◌, ◌++◌, filter, length, arith}
use Rattle.std.proofs.lemmas.Bool.{and_from, and_parts, cases_Bool, eqb-true, le-leb, leb-true, ltb-true}
use Rattle.std.specs.List.{flat_map, list_all}
use Rattle.mt_lasting.specs.Keys.{numbers_from}

module _ (X : Type 0) (number : X → ℕ) where
  abbrev pub has : ℕ → X → Bool
  has n x = number x == n

  abbrev other : ℕ → X → Bool
  other n x = not (number x == n)

  -- whether they ascend, from this number on
  abbrev pub rise : ℕ → List X → Bool
  rise least [] = true
  rise least (x ∷ xs) = nat_le least (number x) && rise (number x) xs

  abbrev pub is_below : ℕ → X → Bool
  is_below most x = nat_lt (number x) most

  -- none has a lower number
  none_lower : (n least : ℕ) (xs : List X) → n < least → rise least xs ≡ true → (filter (has n) xs ≡ []) × (filter (other n) xs ≡ xs)
  none_lower n least [] lower up = (refl, refl)
  none_lower n least (x ∷ xs) lower up =
      let both = and_parts (nat_le least (number x)) (rise (number x) xs) up in
      let above = leb-true least (number x) both.0 in
      let apart : (number x == n) ≡ false = grind (arith, above, lower) in
      let rest = none_lower n (number x) xs (omega (arith, above, lower)) both.1 in
      (rw apart rest.0, rw apart (ap (λ (l : List X). x ∷ l) rest.1))

  -- those of the least number stand first
  parted : (n : ℕ) (xs : List X) → rise n xs ≡ true → filter (has n) xs ++ filter (other n) xs ≡ xs
  parted n [] up = refl
  parted n (x ∷ xs) up =
      let both = and_parts (nat_le n (number x)) (rise (number x) xs) up in
      let above = leb-true n (number x) both.0 in
      elim (cases_Bool (number x == n)) [
        | inl same ↦
            let is : number x ≡ n = eqb-true (number x) n same in
            let on : rise n xs ≡ true = ap (λ m. rise m xs) (sym is) ∙ both.1 in
            rw same (ap (λ (l : List X). x ∷ l) (parted n xs on))
        | inr apart ↦
            let rest = none_lower n (number x) xs (grind (arith, above, apart)) both.1 in
            rw (apart, rest.0, rest.1) refl
      ]

  others_rise : (n : ℕ) (xs : List X) → rise n xs ≡ true → rise (n + 1) (filter (other n) xs) ≡ true
  others_rise n [] up = refl
  others_rise n (x ∷ xs) up =
      let both = and_parts (nat_le n (number x)) (rise (number x) xs) up in
      let above = leb-true n (number x) both.0 in
      elim (cases_Bool (number x == n)) [
        | inl same ↦
            let is : number x ≡ n = eqb-true (number x) n same in
            let on : rise n xs ≡ true = ap (λ m. rise m xs) (sym is) ∙ both.1 in
            rw same (others_rise n xs on)
        | inr apart ↦
            let higher : n < number x = grind (arith, above, apart) in
            let rest = none_lower n (number x) xs higher both.1 in
            rw (apart, rest.1) (and_from _ _ (le-leb (n + 1) (number x) (omega (arith, higher))) both.1)
      ]

  others_below : (most n : ℕ) (xs : List X) → list_all (is_below most) xs ≡ true → list_all (is_below most) (filter (other n) xs) ≡ true
  others_below most n [] all = refl
  others_below most n (x ∷ xs) all =
      let both = and_parts (is_below most x) (list_all (is_below most) xs) all in
      elim (cases_Bool (number x == n)) [
        | inl same ↦ rw same (others_below most n xs both.1)
        | inr apart ↦ rw apart (and_from _ _ both.0 (others_below most n xs both.1))
      ]

  -- of a higher number those are the same that are among the others
  same_of_others : (n m : ℕ) (xs : List X) → n < m → filter (has m) xs ≡ filter (has m) (filter (other n) xs)
  same_of_others n m [] lower = refl
  same_of_others n m (x ∷ xs) lower = elim (cases_Bool (number x == n)) [
    | inl same ↦
        let apart : (number x == m) ≡ false = grind (arith, same, lower) in
        rw (same, apart) (same_of_others n m xs lower)
    | inr apart ↦ elim (cases_Bool (number x == m)) [
      | inl its ↦ rw (apart, its) (ap (λ (l : List X). x ∷ l) (same_of_others n m xs lower))
      | inr none ↦ rw (apart, none) (same_of_others n m xs lower)
    ]
  ]

  all_of_others : (n m count : ℕ) (xs : List X) → n < m → flat_map (λ i. filter (has i) xs) (numbers_from m count) ≡ flat_map (λ i. filter (has i) (filter (other n) xs)) (numbers_from m count)
  all_of_others n m zero xs lower = refl
  all_of_others n m (suc count) xs lower = λ i. same_of_others n m xs lower i ++ all_of_others n (m + 1) count xs (omega (arith, lower)) i

  none_between : (n : ℕ) (xs : List X) → rise n xs ≡ true → list_all (is_below (n + 0)) xs ≡ true → [] ≡ xs
  none_between n [] up all = refl
  none_between n (x ∷ xs) up all =
      let above = leb-true n (number x) (and_parts (nat_le n (number x)) (rise (number x) xs) up).0 in
      let below = ltb-true (number x) (n + 0) (and_parts (is_below (n + 0) x) (list_all (is_below (n + 0)) xs) all).0 in
      absurd (omega (arith, above, below))

  pub gathered : (n count : ℕ) (xs : List X) → rise n xs ≡ true → list_all (is_below (n + count)) xs ≡ true → flat_map (λ i. filter (has i) xs) (numbers_from n count) ≡ xs
  gathered n zero xs up all = none_between n xs up all
  gathered n (suc count) xs up all =
      let rest = filter (other n) xs in
      let same : n + suc count ≡ (n + 1) + count = omega arith in
      let below : list_all (is_below ((n + 1) + count)) xs ≡ true = ap (λ m. list_all (is_below m) xs) (sym same) ∙ all in
      ap (λ (l : List X). filter (has n) xs ++ l) (all_of_others n (n + 1) count xs (omega arith) ∙ gathered (n + 1) count rest (others_rise n xs up) (others_below ((n + 1) + count) n xs below))
      ∙ parted n xs up

  pub rise_lower : (low least : ℕ) (xs : List X) → low ≤ least → rise least xs ≡ true → rise low xs ≡ true
  rise_lower low least [] lower up = refl
  rise_lower low least (x ∷ xs) lower up =
      let both = and_parts (nat_le least (number x)) (rise (number x) xs) up in
      let above = leb-true least (number x) both.0 in
      and_from _ _ (le-leb low (number x) (omega (arith, above, lower))) both.1

  -- where all behind the first have higher numbers, at most one has this
  pub few_of : (n : ℕ) (x : X) (xs : List X) → rise (number x + 1) xs ≡ true → length (filter (has n) xs) ≤ 1 → length (filter (has n) (x ∷ xs)) ≤ 1
  few_of n x xs up few = elim (cases_Bool (number x == n)) [
    | inl same ↦
        let is : number x ≡ n = eqb-true (number x) n same in
        let none = none_lower n (number x + 1) xs (omega (arith, is)) up in
        rw (same, none.0) (omega arith)
    | inr apart ↦ rw apart few
  ]
