-- Writing over a list of bytes.
use Rattle.std.proofs.Common.{◌≡◌, ⊎_elim, ℕ, zero, suc, ◌+◌, ◌-◌, ◌≤◌, ◌<◌, max, List, [], ◌∷◌, ◌++◌, length, take, drop, replicate, sym, ap, ◌∙◌, arith, append_assoc}
use Rattle.std.proofs.lemmas.List.{append-nil, take_all, drop_all, drop_at, take-append-le, take-replicate, length-append, length-take, length-drop, length-replicate}
use Rattle.std.proofs.lemmas.Bool.{cases_lt}
use Rattle.mt_outside.specs.Disk.{overwritten}

-- a list and what is before an offset in what follows it
pub take_past : (xs ys : List ℕ) (m n : ℕ) → m ≡ length xs + n → take m (xs ++ ys) ≡ xs ++ take n ys
take_past [] ys m n is = let same : m ≡ n = omega arith in ap (λ (k : ℕ). take k ys) same
take_past (x ∷ xs) ys zero n is = absurd (omega arith)
take_past (x ∷ xs) ys (suc m) n is = ap (λ (l : List ℕ). x ∷ l) (take_past xs ys m n (omega arith))

-- what stands before an offset in a list that was filled up with 0
take_filled : (old : List ℕ) (at n : ℕ) → at ≤ length old + n → take at (old ++ replicate n 0) ≡ take at old ++ replicate (at - length old) 0
take_filled old at n fits = ⊎_elim past within (cases_lt (length old) at)
  where
    within : at ≤ length old → take at (old ++ replicate n 0) ≡ take at old ++ replicate (at - length old) 0
    within le =
        let none : at - length old ≡ 0 = omega arith in
        take-append-le at old (replicate n 0) le ∙ sym (append-nil (take at old)) ∙ ap (λ (k : ℕ). take at old ++ replicate k 0) (sym none)

    past : length old < at → take at (old ++ replicate n 0) ≡ take at old ++ replicate (at - length old) 0
    past lt =
        take_past old (replicate n 0) at (at - length old) (omega arith)
        ∙ ap (λ (l : List ℕ). old ++ l) (take-replicate (at - length old) n 0 (omega arith))
        ∙ ap (λ (l : List ℕ). l ++ replicate (at - length old) 0) (sym (take_all at old (omega arith)))

-- what stands behind the end of what was filled up
drop_filled : (old : List ℕ) (end : ℕ) → drop end (old ++ replicate (end - length old) 0) ≡ drop end old
drop_filled old end = ⊎_elim past within (cases_lt (length old) end)
  where
    within : end ≤ length old → drop end (old ++ replicate (end - length old) 0) ≡ drop end old
    within le = let none : end - length old ≡ 0 = omega arith in ap (λ (k : ℕ). drop end (old ++ replicate k 0)) none ∙ ap (λ (l : List ℕ). drop end l) (append-nil old)

    past : length old < end → drop end (old ++ replicate (end - length old) 0) ≡ drop end old
    past lt = drop_all end (old ++ replicate (end - length old) 0) (simp (length-append, length-replicate) (omega arith)) ∙ sym (drop_all end old (omega arith))

-- over a list that was filled up first
pub over_filled : (old bytes : List ℕ) (at : ℕ)
    → take at (old ++ replicate (at + length bytes - length old) 0) ++ bytes ++ drop (at + length bytes) (old ++ replicate (at + length bytes - length old) 0) ≡ overwritten at bytes old
over_filled old bytes at =
    let n = at + length bytes - length old in
    ap (λ (l : List ℕ). l ++ bytes ++ drop (at + length bytes) (old ++ replicate n 0)) (take_filled old at n (omega arith))
    ∙ ap (λ (l : List ℕ). take at old ++ replicate (at - length old) 0 ++ bytes ++ l) (drop_filled old (at + length bytes))

pub length-overwritten : (at : ℕ) (bytes old : List ℕ) → length (overwritten at bytes old) ≡ max (length old) (at + length bytes)
length-overwritten at bytes old = simp (length-append, length-take, length-drop, length-replicate) (omega arith)

-- a whole list in the place of one that is no longer
pub written_back : (new old : List ℕ) (n : ℕ) → n ≡ length new → length old ≤ length new → take n (new ++ drop (length new) old) ≡ new
written_back new old n is fits =
    ap (λ (l : List ℕ). take n (new ++ l)) (drop_all (length new) old fits) ∙ ap (λ (l : List ℕ). take n l) (append-nil new) ∙ take_all n new (omega arith)

module _ (at : ℕ) (old : List ℕ) where
  -- what stands before the bytes that are written
  abbrev pub front : List ℕ
  front = take at old ++ replicate (at - length old) 0

  pub length-front : length front ≡ at
  length-front = simp (length-append, length-take, length-replicate) (omega arith)

  -- what was written is torn from an offset in it on
  pub torn_over : (bytes : List ℕ) (half : ℕ) → half ≤ length bytes
      → take (at + half) (overwritten at bytes old) ++ replicate (length bytes - half) 0xa5 ++ drop (at + half + (length bytes - half)) (overwritten at bytes old)
      ≡ overwritten at (take half bytes ++ replicate (length bytes - half) 0xa5) old
  torn_over bytes half fits =
      let behind = drop (at + length bytes) old in
      let torn : List ℕ = replicate (length bytes - half) 0xa5 in
      let same : length (take half bytes ++ torn) ≡ length bytes = simp (length-append, length-take, length-replicate) (omega arith) in
      let first : take (at + half) (front ++ bytes ++ behind) ≡ front ++ take half bytes =
      ap (λ (l : List ℕ). take (at + half) l) (append_assoc front bytes behind)
      ∙ take_past front (bytes ++ behind) (at + half) half (omega (arith, length-front))
      ∙ ap (λ (l : List ℕ). front ++ l) (take-append-le half bytes behind fits) in
      let last : drop (at + half + (length bytes - half)) (front ++ bytes ++ behind) ≡ behind =
      drop_at (front ++ bytes) behind (at + half + (length bytes - half)) (omega (arith, length-front, length-append front bytes)) in
      ap (λ (l : List ℕ). l ++ torn ++ drop (at + half + (length bytes - half)) (front ++ bytes ++ behind)) first
      ∙ ap (λ (l : List ℕ). front ++ take half bytes ++ torn ++ l) last
      ∙ ap (λ (l : List ℕ). l ++ behind) (append_assoc front (take half bytes) torn)
      ∙ ap (λ (n : ℕ). front ++ (take half bytes ++ torn) ++ drop (at + n) old) (sym same)
