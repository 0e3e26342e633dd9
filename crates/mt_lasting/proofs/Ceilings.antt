-- A ceiling that is raised stands in front of what else changes in a boot, and no other change hangs on it.
use Rattle.std.proofs.Common.{◌≡◌, ◌∙◌, refl, sym, ap, ℕ, inl, inr, Bool, true, false, List, [], ◌∷◌, ◌++◌, Some, map}
use Rattle.std.proofs.lemmas.Bool.{and_parts, both_ways, cases_Bool, eq-eqb, eqb-true, false_from_ne_true}
use Rattle.std.specs.List.{flat_map, list_all}
use Rattle.std.specs.Prelude.{◌==◌, if◌then◌else◌}
use Rattle.mt_tlv.specs.declared.value.Value.TheVariants as values
use Rattle.mt_model.specs.declared.node.state.NodeState.{NodeState}
use Rattle.mt_grammar.specs.declared.keys.Key.{Key}
use Rattle.mt_grammar.specs.declared.keys.Key.TheVariants as keys
use Rattle.mt_lasting.specs.Changes.{differing, differing_at, is_same_value, raised, with_value}
use Rattle.mt_lasting.specs.Keys.{indexes, keys_of, single_places}
use Rattle.mt_lasting.specs.Laws.{RaisedCeilingsComeFirst, SameUnderAnyCeiling}
use Rattle.mt_lasting.proofs.Differing.{none_differs}
use Rattle.mt_lasting.proofs.Same.{same_values, values_same}

-- What is said of the ceiling.

within : (m n : ℕ) → values.Uint m ≡ values.Uint n → m ≡ n
within m n e = cc

-- numbers as values are the same where they are as numbers
same_number : (m n : ℕ) → is_same_value (values.Uint m) (values.Uint n) ≡ (m == n)
same_number m n =
    let equal : is_same_value (values.Uint m) (values.Uint n) ≡ true → (m == n) ≡ true = λ alike. eq-eqb m n (within m n (values_same (values.Uint m) (values.Uint n) alike)) in
    elim (cases_Bool (m == n)) [
      | inl same ↦ same_values (values.Uint m) (values.Uint n) (ap values.Uint (eqb-true m n same)) ∙ sym same
      | inr differ ↦ false_from_ne_true (is_same_value (values.Uint m) (values.Uint n)) (λ alike. both_ways (m == n) differ (equal alike)) ∙ sym differ
    ]

raised_said : (ceiling next : ℕ) → differing keys.Ceiling (Some (values.Uint ceiling)) (Some (values.Uint next)) ≡ raised ceiling next
raised_said ceiling next = ap (λ (b : Bool). if b then [] else with_value keys.Ceiling (Some (values.Uint next)) ∷ []) (same_number ceiling next)

-- What is said of the other keys.

abbrev is_other : Key → Bool
is_other keys.Ceiling = false
is_other key = true

-- the keys behind the ceiling's
abbrev other_keys : List Key
other_keys = map keys.Single single_places ++ (flat_map keys_of indexes ++ (map keys.Fabric indexes ++ (keys.Roots ∷ keys.Networks ∷ keys.Failsafe ∷ [])))

others_are : list_all is_other other_keys ≡ true
others_are = refl

module _ (s t : NodeState) where
  other_said : (ceiling next lower higher : ℕ) (key : Key) → is_other key ≡ true → differing_at s ceiling t next key ≡ differing_at s lower t higher key
  other_said ceiling next lower higher keys.Boot other = refl
  other_said ceiling next lower higher keys.Ceiling other = absurd (cc)
  other_said ceiling next lower higher (keys.Single place) other = refl
  other_said ceiling next lower higher (keys.Items fabric place) other = refl
  other_said ceiling next lower higher (keys.Fabric index) other = refl
  other_said ceiling next lower higher keys.Roots other = refl
  other_said ceiling next lower higher keys.Networks other = refl
  other_said ceiling next lower higher keys.Failsafe other = refl

  others_said : (ceiling next lower higher : ℕ) (rest : List Key) → list_all is_other rest ≡ true → flat_map (differing_at s ceiling t next) rest ≡ flat_map (differing_at s lower t higher) rest
  others_said ceiling next lower higher [] others = refl
  others_said ceiling next lower higher (key ∷ rest) others =
      let both = and_parts (is_other key) (list_all is_other rest) others in
      λ i. other_said ceiling next lower higher key both.0 i ++ others_said ceiling next lower higher rest both.1 i

  -- of a ceiling that stays nothing is said
  unsaid : (ceiling : ℕ) → differing_at s ceiling t ceiling keys.Ceiling ≡ []
  unsaid ceiling = none_differs keys.Ceiling (Some (values.Uint ceiling)) (Some (values.Uint ceiling)) refl

  any_said : (ceiling next : ℕ) (rest : List Key) → list_all is_other rest ≡ true
      → flat_map (differing_at s ceiling t ceiling) (keys.Boot ∷ keys.Ceiling ∷ rest) ≡ flat_map (differing_at s next t next) (keys.Boot ∷ keys.Ceiling ∷ rest)
  any_said ceiling next rest others =
      λ i. differing_at s ceiling t ceiling keys.Boot ++ ((unsaid ceiling ∙ sym (unsaid next)) i ++ others_said ceiling ceiling next next rest others i)

  -- of a boot that stays nothing is said
  boot_unsaid : (ceiling next : ℕ) → s.boot ≡ t.boot → differing_at s ceiling t next keys.Boot ≡ []
  boot_unsaid ceiling next same = none_differs keys.Boot (Some (values.Uint s.boot)) (Some (values.Uint t.boot)) (ap (λ (boot : ℕ). Some (values.Uint boot)) same)

  first_said : (ceiling next : ℕ) (rest : List Key) → list_all is_other rest ≡ true → s.boot ≡ t.boot
      → flat_map (differing_at s ceiling t next) (keys.Boot ∷ keys.Ceiling ∷ rest) ≡ raised ceiling next ++ flat_map (differing_at s ceiling t ceiling) (keys.Boot ∷ keys.Ceiling ∷ rest)
  first_said ceiling next rest others same =
      let behind : raised ceiling next ++ flat_map (differing_at s ceiling t ceiling) (keys.Boot ∷ keys.Ceiling ∷ rest) ≡ raised ceiling next ++ flat_map (differing_at s ceiling t ceiling) rest =
      λ i. raised ceiling next ++ (boot_unsaid ceiling ceiling same i ++ (unsaid ceiling i ++ flat_map (differing_at s ceiling t ceiling) rest)) in
      (λ i. boot_unsaid ceiling next same i ++ (raised_said ceiling next i ++ others_said ceiling next ceiling ceiling rest others i)) ∙ sym behind

pub raised_first : RaisedCeilingsComeFirst
raised_first s t ceiling next same = first_said s t ceiling next other_keys others_are same

pub same_under_any : SameUnderAnyCeiling
same_under_any s t ceiling next = any_said s t ceiling next other_keys others_are
