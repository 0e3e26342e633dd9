-- Parts in their order, and the first of them that differs.
use Rattle.std.proofs.Common.{◌≡◌, ℕ, ◌==◌, if◌then◌else◌, ◌+◌, ◌≤◌, ◌<◌, inl, inr, Bool, true, false, not, List, [], ◌∷◌, length, Some, None, refl, sym, ap, subst, ◌∙◌, arith}
use Rattle.std.proofs.lemmas.Bool.{cases_Bool}
use Rattle.std.proofs.lemmas.Bool.Decides.{eqb_tells}
use Rattle.std.specs.List.{find}
use Rattle.mt_marks.specs.Parts.{all_parts, place_of}
use Rattle.mt_marks.specs.declared.difference.Part.{Part}
use Rattle.mt_marks.specs.declared.difference.Part.TheVariants as parts

-- the part of a place
abbrev part_at : ℕ → Part
part_at place =
    if place == 0 then parts.Event
    else if place == 1 then parts.Born
    else if place == 2 then parts.Rows
    else if place == 3 then parts.Fabrics
    else if place == 4 then parts.Roots
    else if place == 5 then parts.Networks
    else if place == 6 then parts.Failsafe
    else if place == 7 then parts.Versions
    else if place == 8 then parts.Events
    else if place == 9 then parts.Numbers
    else if place == 10 then parts.Boot
    else parts.Now

at_place : (part : Part) → part_at (place_of part) ≡ part
at_place parts.Event = refl
at_place parts.Born = refl
at_place parts.Rows = refl
at_place parts.Fabrics = refl
at_place parts.Roots = refl
at_place parts.Networks = refl
at_place parts.Failsafe = refl
at_place parts.Versions = refl
at_place parts.Events = refl
at_place parts.Numbers = refl
at_place parts.Boot = refl
at_place parts.Now = refl

pub one_place : (one other : Part) → place_of one ≡ place_of other → one ≡ other
one_place one other e = sym (at_place one) ∙ ap part_at e ∙ at_place other

within : (part : Part) → place_of part < 12
within parts.Event = omega arith
within parts.Born = omega arith
within parts.Rows = omega arith
within parts.Fabrics = omega arith
within parts.Roots = omega arith
within parts.Networks = omega arith
within parts.Failsafe = omega arith
within parts.Versions = omega arith
within parts.Events = omega arith
within parts.Numbers = omega arith
within parts.Boot = omega arith
within parts.Now = omega arith

-- these parts have the places from this one on
abbrev Ascend : ℕ → List Part → Type 0
Ascend place [] = Unit {0}
Ascend place (part ∷ others) = (place_of part ≡ place) × Ascend (place + 1) others

all_ascend : Ascend 0 all_parts
all_ascend = (refl, (refl, (refl, (refl, (refl, (refl, (refl, (refl, (refl, (refl, (refl, (refl, tt))))))))))))

module _ (same : Part → Bool) where
  abbrev pub differs : Part → Bool
  differs part = not (same part)

  -- what is so of all parts behind one, and of that one, is so of all from its place on
  one_more : (place : ℕ) (one before : Part) → place_of one ≡ place → same one ≡ true → (place + 1 ≤ place_of before → same before ≡ true) → place ≤ place_of before → same before ≡ true
  one_more place one before is holds further from = elim (eqb_tells (place_of before) place) [
    | inl here ↦ subst (λ (part : Part). same part ≡ true) (one_place one before (is ∙ sym here.1)) holds
    | inr there ↦ further (omega (arith, there.1))
  ]

  skipped : (one : Part) (others : List Part) → same one ≡ true → find differs (one ∷ others) ≡ find differs others
  skipped one others holds = rw holds refl

  taken : (one : Part) (others : List Part) → same one ≡ false → find differs (one ∷ others) ≡ Some one
  taken one others fails = rw fails refl

  some_one : (one part : Part) → Some one ≡ Some part → one ≡ part
  some_one one part e = cc

  -- what is found differs, and all before it are the same
  finds : (place : ℕ) (all : List Part) → Ascend place all → (part : Part) → find differs all ≡ Some part
      → (same part ≡ false) × (place ≤ place_of part) × ((before : Part) → place ≤ place_of before → place_of before < place_of part → same before ≡ true)
  finds place [] ascend part found = absurd (cc)
  finds place (one ∷ others) ascend part found = elim (cases_Bool (same one)) [
    | inl holds ↦
        let rest = finds (place + 1) others ascend.1 part (sym (skipped one others holds) ∙ found) in
        (rest.0, omega (arith, rest.1), λ before from to. one_more place one before ascend.0 holds (λ behind. rest.2 before behind to) from)
    | inr fails ↦
        let is : one ≡ part = some_one one part (sym (taken one others fails) ∙ found) in
        let there : place_of part ≡ place = ap place_of (sym is) ∙ ascend.0 in
        (subst (λ (p : Part). same p ≡ false) is fails, omega (arith, there), λ before from to. absurd (omega (arith, there)))
  ]

  -- nothing is found, and all are the same
  finds_none : (place : ℕ) (all : List Part) → Ascend place all → find differs all ≡ None → (part : Part) → place ≤ place_of part → place_of part < place + length all → same part ≡ true
  finds_none place [] ascend none part from to = absurd (omega (arith))
  finds_none place (one ∷ others) ascend none part from to = elim (cases_Bool (same one)) [
    | inl holds ↦ one_more place one part ascend.0 holds (λ behind. finds_none (place + 1) others ascend.1 (sym (skipped one others holds) ∙ none) part behind (omega arith)) from
    | inr fails ↦ absurd (let clash : Some one ≡ None = sym (taken one others fails) ∙ none in cc)
  ]

  -- the first that differs is found
  found_first : (place : ℕ) (all : List Part) → Ascend place all → (part : Part) → same part ≡ false → ((before : Part) → place_of before < place_of part → same before ≡ true)
      → place ≤ place_of part → place_of part < place + length all → find differs all ≡ Some part
  found_first place [] ascend part fails before from to = absurd (omega arith)
  found_first place (one ∷ others) ascend part fails before from to = elim (eqb_tells (place_of part) place) [
    | inl here ↦
        let is : one ≡ part = one_place one part (ascend.0 ∙ sym here.1) in
        taken one others (subst (λ (p : Part). same p ≡ false) (sym is) fails) ∙ ap Some is
    | inr there ↦
        let holds : same one ≡ true = before one (omega (arith, ascend.0, there.1)) in
        skipped one others holds ∙ found_first (place + 1) others ascend.1 part fails before (omega (arith, there.1)) (omega arith)
  ]

  all_skipped : (all : List Part) → ((part : Part) → same part ≡ true) → find differs all ≡ None
  all_skipped [] holds = refl
  all_skipped (one ∷ others) holds = skipped one others (holds one) ∙ all_skipped others holds

  -- Of all parts.

  pub found_is_first : (part : Part) → find differs all_parts ≡ Some part → (same part ≡ false) × ((before : Part) → place_of before < place_of part → same before ≡ true)
  found_is_first part found =
      let all = finds 0 all_parts all_ascend part found in
      (all.0, λ before to. all.2 before (omega arith) to)

  pub first_is_found : (part : Part) → same part ≡ false → ((before : Part) → place_of before < place_of part → same before ≡ true) → find differs all_parts ≡ Some part
  first_is_found part fails before = found_first 0 all_parts all_ascend part fails before (omega arith) (within part)

  pub none_is_found : ((part : Part) → same part ≡ true) → find differs all_parts ≡ None
  none_is_found holds = all_skipped all_parts holds

  pub none_differs : find differs all_parts ≡ None → (part : Part) → same part ≡ true
  none_differs none part = finds_none 0 all_parts all_ascend none part (omega arith) (within part)
