-- The least index that no fabric has, and the place of a fabric that gets it.
use Rattle.std.proofs.Common.{◌≡◌, ℕ, zero, suc, ◌+◌, ◌<◌, ◌≤◌, inl, inr, ◌==◌, nat_lt, true, false, List, [], ◌∷◌, length, refl, ap, sym, subst, ◌∙◌, insert, arith, eq-eqb, eqb-true, le-ltb, lt-ltb, ne_eqb}
use Rattle.std.proofs.lemmas.Bool.{cases_Bool, cases_eq, cond-true, cond-false, eqb-false, or_from, or_left, or_right}
use Rattle.mt_model.specs.rows.Order.{rise_above}
use Rattle.mt_model.specs.declared.tables.fabric.Fabric.{Fabric}
use Rattle.mt_fabrics.proofs.Places.{head_above, low_unused, tail_rises}
use Rattle.mt_fabrics.specs.Table.{IsLeastUnused, IsTable, is_used, least_unused, placed, unused_from}

-- how the index goes on behind a fabric that has it, and behind one that has not
goes_on : (index : ℕ) (f : Fabric) (fs : List Fabric) → (f.index == index) ≡ true → unused_from index (f ∷ fs) ≡ unused_from (index + 1) fs
goes_on index f fs e = cond-true (f.index == index) (unused_from (index + 1) fs) index e

stops : (index : ℕ) (f : Fabric) (fs : List Fabric) → (f.index == index) ≡ false → unused_from index (f ∷ fs) ≡ index
stops index f fs e = cond-false (f.index == index) (unused_from (index + 1) fs) index e

unused_from-low : (index : ℕ) (fs : List Fabric) → index ≤ unused_from index fs
unused_from-low index [] = omega arith
unused_from-low index (f ∷ fs) = elim (cases_Bool (f.index == index)) [
  | inl e ↦
      let rest : index + 1 ≤ unused_from (index + 1) fs = unused_from-low (index + 1) fs in
      subst (λ (n : ℕ). index ≤ n) (sym (goes_on index f fs e)) (omega (arith, rest))
  | inr e ↦ subst (λ (n : ℕ). index ≤ n) (sym (stops index f fs e)) (omega arith)
]

pub unused_from-within : (index : ℕ) (fs : List Fabric) → unused_from index fs ≤ index + length fs
unused_from-within index [] = omega arith
unused_from-within index (f ∷ fs) = elim (cases_Bool (f.index == index)) [
  | inl e ↦
      let rest : unused_from (index + 1) fs ≤ index + 1 + length fs = unused_from-within (index + 1) fs in
      subst (λ (n : ℕ). n ≤ index + length (f ∷ fs)) (sym (goes_on index f fs e)) (omega (arith, rest))
  | inr e ↦ subst (λ (n : ℕ). n ≤ index + length (f ∷ fs)) (sym (stops index f fs e)) (omega arith)
]

-- those behind a fabric with this index rise from it on
rises_on : (least index : ℕ) (f : Fabric) (fs : List Fabric) → (f.index == index) ≡ true → rise_above least (f ∷ fs) ≡ true → rise_above index fs ≡ true
rises_on least index f fs e up = subst (λ (n : ℕ). rise_above n fs ≡ true) (eqb-true f.index index e) (tail_rises least f fs up)

-- nobody has it
gap_unused : (least : ℕ) (fs : List Fabric) → rise_above least fs ≡ true → is_used (unused_from (least + 1) fs) fs ≡ false
gap_unused least [] up = refl
gap_unused least (f ∷ fs) up = elim (cases_Bool (f.index == (least + 1))) [
  | inl e ↦
      let same : f.index ≡ least + 1 = eqb-true _ _ e in
      let next = unused_from (least + 1 + 1) fs in
      let high : least + 1 + 1 ≤ next = unused_from-low (least + 1 + 1) fs in
      let here : is_used next (f ∷ fs) ≡ false =
      or_from (f.index == next) (is_used next fs) (ne_eqb f.index next (λ q. omega (arith, q, same, high))) (gap_unused (least + 1) fs (rises_on least (least + 1) f fs e up)) in
      subst (λ (n : ℕ). is_used n (f ∷ fs) ≡ false) (sym (goes_on (least + 1) f fs e)) here
  | inr e ↦
      let low : least < f.index = head_above least f fs up in
      let here : is_used (least + 1) (f ∷ fs) ≡ false = or_from (f.index == (least + 1)) (is_used (least + 1) fs) e (low_unused (least + 1) f.index fs (omega (arith, low)) (tail_rises least f fs up)) in
      subst (λ (n : ℕ). is_used n (f ∷ fs) ≡ false) (sym (stops (least + 1) f fs e)) here
]

-- each lower one is somebody's
below_gap_used : (least lower : ℕ) (fs : List Fabric) → rise_above least fs ≡ true → least < lower → lower < unused_from (least + 1) fs → is_used lower fs ≡ true
below_gap_used least lower [] up above below = let under : lower < least + 1 = below in absurd (omega (arith, under, above))
below_gap_used least lower (f ∷ fs) up above below = elim (cases_Bool (f.index == (least + 1))) [
  | inl e ↦
      let same : f.index ≡ least + 1 = eqb-true _ _ e in
      let under : lower < unused_from (least + 1 + 1) fs = subst (λ (n : ℕ). lower < n) (goes_on (least + 1) f fs e) below in
      elim (cases_eq f.index lower) [
        | inl q ↦ or_left (f.index == lower) (is_used lower fs) (eq-eqb f.index lower q)
        | inr q ↦ or_right (f.index == lower) (is_used lower fs)
            (below_gap_used (least + 1) lower fs (rises_on least (least + 1) f fs e up) (omega (arith, q, same, above)) under)
      ]
  | inr e ↦
      let under : lower < least + 1 = subst (λ (n : ℕ). lower < n) (stops (least + 1) f fs e) below in
      absurd (omega (arith, under, above))
]

pub is_least : (fabrics : List Fabric) → IsTable fabrics → IsLeastUnused (least_unused fabrics) fabrics
is_least fabrics table = record {
  from_one = unused_from-low 1 fabrics;
  unused = gap_unused 0 fabrics table.rises;
  least = λ lower above below. below_gap_used 0 lower fabrics table.rises (omega (arith, above)) below;
}

-- a fabric that gets it is put behind those of lower indexes
gap_placed : (x : Fabric) (least p : ℕ) (fs : List Fabric) → rise_above least fs ≡ true → unused_from (least + 1) fs ≡ x.index → x.index ≡ least + 1 + p
    → insert fs p x ≡ placed x fs
gap_placed x least zero [] up gap is = refl
gap_placed x least (suc p) [] up gap is = let here : least + 1 ≡ x.index = gap in absurd (omega (arith, here, is))
gap_placed x least zero (f ∷ fs) up gap is = elim (cases_Bool (f.index == (least + 1))) [
  | inl e ↦
      let next : unused_from (least + 1 + 1) fs ≡ x.index = sym (goes_on (least + 1) f fs e) ∙ gap in
      let high : least + 1 + 1 ≤ unused_from (least + 1 + 1) fs = unused_from-low (least + 1 + 1) fs in
      absurd (omega (arith, next, high, is))
  | inr e ↦
      let low : least < f.index = head_above least f fs up in
      let apart : f.index ≡ least + 1 → ⊥ = eqb-false f.index (least + 1) e in
      sym (cond-false (nat_lt f.index x.index) (f ∷ placed x fs) (x ∷ f ∷ fs) (le-ltb f.index x.index (omega (arith, low, apart, is))))
]
gap_placed x least (suc p) (f ∷ fs) up gap is = elim (cases_Bool (f.index == (least + 1))) [
  | inl e ↦
      let same : f.index ≡ least + 1 = eqb-true _ _ e in
      let next : unused_from (least + 1 + 1) fs ≡ x.index = sym (goes_on (least + 1) f fs e) ∙ gap in
      let rest : insert fs p x ≡ placed x fs = gap_placed x (least + 1) p fs (rises_on least (least + 1) f fs e up) next (omega (arith, is)) in
      ap (λ (l : List Fabric). f ∷ l) rest
      ∙ sym (cond-true (nat_lt f.index x.index) (f ∷ placed x fs) (x ∷ f ∷ fs) (lt-ltb f.index x.index (omega (arith, same, is))))
  | inr e ↦
      let here : least + 1 ≡ x.index = sym (stops (least + 1) f fs e) ∙ gap in
      absurd (omega (arith, here, is))
]

-- the same, from the least index of a table on
pub put_at : (x : Fabric) (p : ℕ) (fs : List Fabric) → rise_above 0 fs ≡ true → x.index ≡ least_unused fs → x.index ≡ p + 1 → insert fs p x ≡ placed x fs
put_at x p fs up least is = gap_placed x 0 p fs up (sym least) (omega (arith, is))
