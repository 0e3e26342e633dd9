-- A fabric at its place in a table, whose indexes rise.
use Rattle.std.proofs.Common.{◌≡◌, ℕ, zero, suc, ◌<◌, ◌≤◌, ◌==◌, nat_lt, cond, true, false, List, [], ◌∷◌, length, get_or, Some, refl, ap, sym, ◌∙◌, find, remove, slice_set, arith, eq-eqb, ltb-true, ne_eqb}
use Rattle.std.proofs.lemmas.Bool.{and_parts, cond-true, cond-false, not_from_false, not_from_true, or_from}
use Rattle.std.proofs.lemmas.List.{get_or_read}
use Rattle.std.proofs.lemmas.List.Folds.{list_any_at}
use Rattle.mt_model.specs.rows.Order.{fabrics_ascend, rise_above}
use Rattle.mt_model.specs.declared.tables.fabric.Fabric.{Fabric}
use Rattle.mt_fabrics.specs.Places.{IsAt}
use Rattle.mt_fabrics.specs.Table.{changed, has_index, has_other_index, is_used, removed}

-- the head of rising fabrics is above the number, and those behind it rise from it on
pub head_above : (least : ℕ) (f : Fabric) (fs : List Fabric) → rise_above least (f ∷ fs) ≡ true → least < f.index
head_above least f fs up = ltb-true least f.index (and_parts (nat_lt least f.index) (rise_above f.index fs) up).0

pub tail_rises : (least : ℕ) (f : Fabric) (fs : List Fabric) → rise_above least (f ∷ fs) ≡ true → rise_above f.index fs ≡ true
tail_rises least f fs up = (and_parts (nat_lt least f.index) (rise_above f.index fs) up).1

-- each is above the number
place_above : (least : ℕ) (fs : List Fabric) (p : ℕ) (d : Fabric) → rise_above least fs ≡ true → p < length fs → least < (get_or fs p d).index
place_above least [] p d up lt = absurd (omega arith)
place_above least (f ∷ fs) zero d up lt = head_above least f fs up
place_above least (f ∷ fs) (suc p) d up lt =
    let low : least < f.index = head_above least f fs up in
    let high : f.index < (get_or fs p d).index = place_above f.index fs p d (tail_rises least f fs up) (omega arith) in
    omega (arith, low, high)

-- an index up to the number is nobody's
pub low_unused : (index least : ℕ) (fs : List Fabric) → index ≤ least → rise_above least fs ≡ true → is_used index fs ≡ false
low_unused index least [] le up = refl
low_unused index least (f ∷ fs) le up =
    let low : least < f.index = head_above least f fs up in
    or_from (f.index == index) (is_used index fs) (ne_eqb f.index index (λ e. omega (arith, e, low, le)))
    (low_unused index f.index fs (omega (arith, low, le)) (tail_rises least f fs up))

-- a change to it changes nothing, and without it they are as they were
pub low_changed : (index least : ℕ) (change : Fabric → Fabric) (fs : List Fabric) → index ≤ least → rise_above least fs ≡ true → changed index change fs ≡ fs
low_changed index least change [] le up = refl
low_changed index least change (f ∷ fs) le up =
    let low : least < f.index = head_above least f fs up in
    let apart : (f.index == index) ≡ false = ne_eqb f.index index (λ e. omega (arith, e, low, le)) in
    let rest : changed index change fs ≡ fs = low_changed index f.index change fs (omega (arith, low, le)) (tail_rises least f fs up) in
    λ i. cond-false (f.index == index) (change f) f apart i ∷ rest i

low_removed : (index least : ℕ) (fs : List Fabric) → index ≤ least → rise_above least fs ≡ true → removed index fs ≡ fs
low_removed index least [] le up = refl
low_removed index least (f ∷ fs) le up =
    let low : least < f.index = head_above least f fs up in
    let apart : (f.index == index) ≡ false = ne_eqb f.index index (λ e. omega (arith, e, low, le)) in
    cond-true (has_other_index index f) (f ∷ removed index fs) (removed index fs) (not_from_false _ apart)
    ∙ ap (λ (rest : List Fabric). f ∷ rest) (low_removed index f.index fs (omega (arith, low, le)) (tail_rises least f fs up))

-- the fabric at a place, where it has the index
module _ (index : ℕ) where
  -- one before it has another
  apart_before : (least : ℕ) (f : Fabric) (fs : List Fabric) (p : ℕ) (d : Fabric) → rise_above least (f ∷ fs) ≡ true → p < length fs
      → (get_or fs p d).index ≡ index → (f.index == index) ≡ false
  apart_before least f fs p d up lt same =
      let high : f.index < (get_or fs p d).index = place_above f.index fs p d (tail_rises least f fs up) lt in
      ne_eqb f.index index (λ e. omega (arith, e, same, high))

  place_found : (least : ℕ) (fs : List Fabric) (p : ℕ) (d : Fabric) → rise_above least fs ≡ true → p < length fs
      → (get_or fs p d).index ≡ index → find (has_index index) fs ≡ Some (get_or fs p d)
  place_found least [] p d up lt same = absurd (omega arith)
  place_found least (f ∷ fs) zero d up lt same = cond-true _ _ _ (eq-eqb f.index index same)
  place_found least (f ∷ fs) (suc p) d up lt same =
      cond-false _ _ _ (apart_before least f fs p d up (omega arith) same)
      ∙ place_found f.index fs p d (tail_rises least f fs up) (omega arith) same

  place_changed : (change : Fabric → Fabric) (least : ℕ) (fs : List Fabric) (p : ℕ) (d : Fabric) → rise_above least fs ≡ true → p < length fs
      → (get_or fs p d).index ≡ index → slice_set fs p (change (get_or fs p d)) ≡ changed index change fs
  place_changed change least [] p d up lt same = absurd (omega arith)
  place_changed change least (f ∷ fs) zero d up lt same =
      let here : f.index ≡ index = same in
      let first : change f ≡ cond (f.index == index) (change f) f = sym (cond-true (f.index == index) (change f) f (eq-eqb f.index index here)) in
      let rest : fs ≡ changed index change fs = sym (low_changed index f.index change fs (omega (arith, here)) (tail_rises least f fs up)) in
      λ i. first i ∷ rest i
  place_changed change least (f ∷ fs) (suc p) d up lt same =
      let apart : (f.index == index) ≡ false = apart_before least f fs p d up (omega arith) same in
      let first : f ≡ cond (f.index == index) (change f) f = sym (cond-false (f.index == index) (change f) f apart) in
      let rest : slice_set fs p (change (get_or fs p d)) ≡ changed index change fs = place_changed change f.index fs p d (tail_rises least f fs up) (omega arith) same in
      λ i. first i ∷ rest i

  place_removed : (least : ℕ) (fs : List Fabric) (p : ℕ) (d : Fabric) → rise_above least fs ≡ true → p < length fs
      → (get_or fs p d).index ≡ index → remove fs p ≡ removed index fs
  place_removed least [] p d up lt same = absurd (omega arith)
  place_removed least (f ∷ fs) zero d up lt same =
      let here : f.index ≡ index = same in
      sym (cond-false (has_other_index index f) (f ∷ removed index fs) (removed index fs) (not_from_true _ (eq-eqb f.index index here))
      ∙ low_removed index f.index fs (omega (arith, here)) (tail_rises least f fs up))
  place_removed least (f ∷ fs) (suc p) d up lt same =
      ap (λ (rest : List Fabric). f ∷ rest) (place_removed f.index fs p d (tail_rises least f fs up) (omega arith) same)
      ∙ sym (cond-true (has_other_index index f) (f ∷ removed index fs) (removed index fs) (not_from_false _ (apart_before least f fs p d up (omega arith) same)))

pub is_at : (index : ℕ) (fs : List Fabric) (p : ℕ) (m : Fabric) → fabrics_ascend fs ≡ true → p < length fs → m ≡ get_or fs p m → m.index ≡ index → IsAt index fs p
is_at index fs p m up lt is same = record {
  within = lt;
  used = list_any_at (has_index index) fs p m lt (eq-eqb _ _ (here m));
  found = λ d. place_found index 0 fs p d up lt (here d);
  changes = λ change d. place_changed index change 0 fs p d up lt (here d);
  removes = place_removed index 0 fs p m up lt (here m);
}
  where
    here : (d : Fabric) → (get_or fs p d).index ≡ index
    here d = ap (λ (f : Fabric). f.index) (sym (get_or_read fs p m lt is d)) ∙ same
