-- What is read of keys that ascend, ascends.
use Rattle.std.proofs.Common.{◌≡◌, refl, sym, subst, ℕ, ◌+◌, ◌≤◌, ◌<◌, inl, inr, ◌&&◌, ◌==◌, nat_le, nat_lt, Bool, true, false, List, [], ◌∷◌, ◌++◌, filter, length, arith}
use Rattle.std.proofs.lemmas.Bool.{and_from, and_parts, cases_Bool, eqb-true, le-leb, leb-true, lt-ltb, ltb-true}
use Rattle.std.specs.List.{flat_map, list_all}
use Rattle.mt_model.specs.rows.Order.{rise_above}
use Rattle.mt_model.specs.declared.tables.fabric.Fabric.{Fabric}
use Rattle.mt_fabrics.specs.Table.{has_index_up_to}
use Rattle.mt_grammar.specs.declared.keys.Key.{Key}
use Rattle.mt_grammar.specs.declared.keys.Key.TheVariants as keys
use Rattle.mt_lasting.specs.Keys.{all_keys}
use Rattle.mt_regained.proofs.Lists.{Each}
use Rattle.mt_regained.proofs.Steps.{fabric_stands}

-- the fabric of a key's items
abbrev pub weight : ℕ → Key → ℕ
weight base (keys.Items fabric place) = fabric
weight base (keys.Fabric index) = 255
weight base keys.Roots = 255
weight base keys.Networks = 255
weight base keys.Failsafe = 255
weight base key = base

abbrev pub weights_rise : ℕ → ℕ → List Key → Bool
weights_rise base least [] = true
weights_rise base least (key ∷ some) = nat_le least (weight base key) && weights_rise base (weight base key) some

pub rise_from_none : weights_rise 0 0 all_keys ≡ true
rise_from_none = refl

pub rise_from_one : weights_rise 1 1 all_keys ≡ true
rise_from_one = refl

module _ (X : Type 0) (number : X → ℕ) where
  -- whether they ascend, from this number on
  abbrev pub rise : ℕ → List X → Bool
  rise least [] = true
  rise least (x ∷ xs) = nat_le least (number x) && rise (number x) xs

  pub rise_lower : (low least : ℕ) (xs : List X) → low ≤ least → rise least xs ≡ true → rise low xs ≡ true
  rise_lower low least [] lower up = refl
  rise_lower low least (x ∷ xs) lower up =
      let both = and_parts (nat_le least (number x)) (rise (number x) xs) up in
      let above = leb-true least (number x) both.0 in
      and_from _ _ (le-leb low (number x) (omega (arith, above, lower))) both.1

  pub rise_filter : (keep : X → Bool) (least : ℕ) (xs : List X) → rise least xs ≡ true → rise least (filter keep xs) ≡ true
  rise_filter keep least [] up = refl
  rise_filter keep least (x ∷ xs) up =
      let both = and_parts (nat_le least (number x)) (rise (number x) xs) up in
      elim (cases_Bool (keep x)) [
        | inl kept ↦ rw kept (and_from _ _ both.0 (rise_filter keep (number x) xs both.1))
        | inr gone ↦ rw gone (rise_lower least (number x) (filter keep xs) (leb-true least (number x) both.0) (rise_filter keep (number x) xs both.1))
      ]

  abbrev pub all_of : ℕ → X → Bool
  all_of n x = number x == n

  rise_append : (n least : ℕ) (xs rest : List X) → least ≤ n → list_all (all_of n) xs ≡ true → rise n rest ≡ true → rise least (xs ++ rest) ≡ true
  rise_append n least [] rest lower all up = rise_lower least n rest lower up
  rise_append n least (x ∷ xs) rest lower all up =
      let both = and_parts (all_of n x) (list_all (all_of n) xs) all in
      let is : number x ≡ n = eqb-true (number x) n both.0 in
      and_from _ _ (le-leb least (number x) (omega (arith, is, lower))) (rise_append n (number x) xs rest (omega (arith, is)) both.1 up)

  pub rises : (of : Key → List X) (base least : ℕ) (some : List Key) → Each (λ key. list_all (all_of (weight base key)) (of key) ≡ true) some → weights_rise base least some ≡ true → rise least (flat_map of some) ≡ true
  rises of base least [] each up = refl
  rises of base least (key ∷ some) each up =
      let both = and_parts (nat_le least (weight base key)) (weights_rise base (weight base key) some) up in
      rise_append (weight base key) least (of key) (flat_map of some) (leb-true least (weight base key) both.0) each.0 (rises of base (weight base key) some each.1 both.1)

-- Fabrics.

abbrev indexes_rise : ℕ → List Key → Bool
indexes_rise least [] = true
indexes_rise least (keys.Fabric index ∷ some) = nat_lt least index && indexes_rise index some
indexes_rise least (key ∷ some) = indexes_rise least some

pub rise_strictly : indexes_rise 0 all_keys ≡ true
rise_strictly = refl

rise_above_lower : (low least : ℕ) (fabrics : List Fabric) → low ≤ least → rise_above least fabrics ≡ true → rise_above low fabrics ≡ true
rise_above_lower low least [] lower up = refl
rise_above_lower low least (fabric ∷ fabrics) lower up =
    let both = and_parts (nat_lt least fabric.index) (rise_above fabric.index fabrics) up in
    let above = ltb-true least fabric.index both.0 in
    and_from _ _ (lt-ltb low fabric.index (omega (arith, above, lower))) both.1

pub none_there : {X : Type 0} (xs : List X) → list_all (λ (x : X). false) xs ≡ true → xs ≡ []
none_there [] all = refl
none_there (x ∷ xs) all = absurd cc

of_none : (least : ℕ) (xs rest : List Fabric) → list_all (λ (f : Fabric). false) xs ≡ true → rise_above least rest ≡ true → rise_above least (xs ++ rest) ≡ true
of_none least xs rest all up = subst (λ (l : List Fabric). rise_above least (l ++ rest) ≡ true) (sym (none_there xs all)) up

of_one : (index least : ℕ) (xs rest : List Fabric) → least < index → nat_le (length xs) 1 ≡ true → list_all (fabric_stands (keys.Fabric index)) xs ≡ true → rise_above index rest ≡ true → rise_above least (xs ++ rest) ≡ true
of_one index least [] rest lower few all up = rise_above_lower least index rest (omega (arith, lower)) up
of_one index least (f ∷ []) rest lower few all up =
    let is : f.index ≡ index = eqb-true f.index index (and_parts (f.index == index) true all).0 in
    and_from _ _ (lt-ltb least f.index (omega (arith, is, lower))) (subst (λ (n : ℕ). rise_above n rest ≡ true) (sym is) up)
of_one index least (f ∷ g ∷ xs) rest lower few all up = absurd (omega (arith, leb-true (length (f ∷ g ∷ xs)) 1 few))

module _ (of : Key → List Fabric) where
  abbrev Few : Key → Type 0
  Few key = (list_all (fabric_stands key) (of key) ≡ true) × (nat_le (length (of key)) 1 ≡ true)

  pub fabrics_rise : (least : ℕ) (some : List Key) → Each Few some → indexes_rise least some ≡ true → rise_above least (flat_map of some) ≡ true
  fabrics_rise least [] each up = refl
  fabrics_rise least (keys.Boot ∷ some) each up = of_none least (of keys.Boot) (flat_map of some) each.0.0 (fabrics_rise least some each.1 up)
  fabrics_rise least (keys.Ceiling ∷ some) each up = of_none least (of keys.Ceiling) (flat_map of some) each.0.0 (fabrics_rise least some each.1 up)
  fabrics_rise least (keys.Single place ∷ some) each up = of_none least (of (keys.Single place)) (flat_map of some) each.0.0 (fabrics_rise least some each.1 up)
  fabrics_rise least (keys.Items fabric place ∷ some) each up = of_none least (of (keys.Items fabric place)) (flat_map of some) each.0.0 (fabrics_rise least some each.1 up)
  fabrics_rise least (keys.Roots ∷ some) each up = of_none least (of keys.Roots) (flat_map of some) each.0.0 (fabrics_rise least some each.1 up)
  fabrics_rise least (keys.Networks ∷ some) each up = of_none least (of keys.Networks) (flat_map of some) each.0.0 (fabrics_rise least some each.1 up)
  fabrics_rise least (keys.Failsafe ∷ some) each up = of_none least (of keys.Failsafe) (flat_map of some) each.0.0 (fabrics_rise least some each.1 up)
  fabrics_rise least (keys.Fabric index ∷ some) each up =
      let both = and_parts (nat_lt least index) (indexes_rise index some) up in
      of_one index least (of (keys.Fabric index)) (flat_map of some) (ltb-true least index both.0) each.0.1 each.0.0 (fabrics_rise index some each.1 both.1)

-- no more than their indexes allow
pub fabrics_few : (most least : ℕ) (fabrics : List Fabric) → least ≤ most → rise_above least fabrics ≡ true → list_all (has_index_up_to most) fabrics ≡ true → length fabrics + least ≤ most
fabrics_few most least [] lower up all = omega (arith, lower)
fabrics_few most least (fabric ∷ fabrics) lower up all =
    let both = and_parts (nat_lt least fabric.index) (rise_above fabric.index fabrics) up in
    let within = and_parts (has_index_up_to most fabric) (list_all (has_index_up_to most) fabrics) all in
    let above = ltb-true least fabric.index both.0 in
    let rest = fabrics_few most fabric.index fabrics (leb-true fabric.index most within.0) both.1 within.1 in
    omega (arith, above, rest)
