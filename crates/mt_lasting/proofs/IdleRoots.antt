-- Of roots that differ, each of which is used, at most one is used by commissioning alone.
use Rattle.std.proofs.Common.{◌≡◌, ◌||◌, ℕ, ◌≤◌, inl, inr, not, nat_le, bytes_eq, count_by, filter, length, Bool, true, false, List, [], ◌∷◌, Option, Some, None, refl, subst, sym, arith}
use Rattle.std.specs.List.{list_all, list_any}
use Rattle.std.proofs.lemmas.Bool.{and_parts, both_ways, cases_Bool, le-leb, not-true, or_cases, or_parts}
use Rattle.std.proofs.lemmas.List.Sums.{length-filter}
use Rattle.std.proofs.lemmas.Slice.Eq.{bytes_eq-Decides}
use Rattle.mt_model.specs.tables.Holding.{is_root_of}
use Rattle.mt_model.specs.texts.Config.{none_alike}
use Rattle.mt_model.specs.declared.tables.fabric.Fabric.{Fabric}
use Rattle.mt_model.specs.declared.tables.network.Armed.{Armed}
use Rattle.mt_grammar.specs.Facts.{is_idle, most_idle}
use Rattle.mt_machine.specs.State.{is_given_root, is_used}

-- How many pass a test, where each that passes it is one certain list of bytes.
module _ (given : List ℕ) (good p : List ℕ → Bool) (each : (root : List ℕ) → good root ≡ true → p root ≡ true → bytes_eq given root ≡ true) where
  none_pass : (roots : List (List ℕ)) → list_all good roots ≡ true → list_any (bytes_eq given) roots ≡ false → length (filter p roots) ≡ 0
  none_pass [] all none = refl
  none_pass (root ∷ roots) all none =
      let both = and_parts (good root) (list_all good roots) all in
      let apart = or_parts (bytes_eq given root) (list_any (bytes_eq given) roots) none in
      elim (cases_Bool (p root)) [
        | inl passes ↦ absurd (both_ways (bytes_eq given root) apart.0 (each root both.0 passes))
        | inr fails ↦ rw fails (none_pass roots both.1 apart.1)
      ]

  one_passes : (roots : List (List ℕ)) → list_all good roots ≡ true → none_alike bytes_eq roots ≡ true → length (filter p roots) ≤ 1
  one_passes [] all differ = omega arith
  one_passes (root ∷ roots) all differ =
      let both = and_parts (good root) (list_all good roots) all in
      let apart = and_parts (not (list_any (bytes_eq root) roots)) (none_alike bytes_eq roots) differ in
      elim (cases_Bool (p root)) [
        | inl passes ↦
            let same : given ≡ root = (bytes_eq-Decides given root).0 (each root both.0 passes) in
            let other : list_any (bytes_eq given) roots ≡ false = subst (λ one. list_any (bytes_eq one) roots ≡ false) (sym same) (not-true (list_any (bytes_eq root) roots) apart.0) in
            rw passes (omega (arith, none_pass roots both.1 other))
        | inr fails ↦ rw fails (one_passes roots both.1 apart.1)
      ]

-- a fabric uses a root, or it was given
abbrev uses : List Fabric → Option (List ℕ) → List ℕ → Bool
uses fabrics given root = list_any (is_root_of root) fabrics || is_given_root root given

idle_given : (fabrics : List Fabric) (given : Option (List ℕ)) (root : List ℕ) → uses fabrics given root ≡ true → is_idle fabrics root ≡ true → is_given_root root given ≡ true
idle_given fabrics given root used idle = elim (or_cases (list_any (is_root_of root) fabrics) (is_given_root root given) used) [
  | inl its ↦ absurd (both_ways (list_any (is_root_of root) fabrics) (not-true (list_any (is_root_of root) fabrics) idle) its)
  | inr awaited ↦ awaited
]

-- where none was given, none is idle
none_idle : (fabrics : List Fabric) (roots : List (List ℕ)) → list_all (uses fabrics None) roots ≡ true → length (filter (is_idle fabrics) roots) ≡ 0
none_idle fabrics [] used = refl
none_idle fabrics (root ∷ roots) used =
    let both = and_parts (uses fabrics None root) (list_all (uses fabrics None) roots) used in
    elim (cases_Bool (is_idle fabrics root)) [
      | inl idle ↦ absurd (both_ways false refl (idle_given fabrics None root both.0 idle))
      | inr busy ↦ rw busy (none_idle fabrics roots both.1)
    ]

one_idle : (fabrics : List Fabric) (given : Option (List ℕ)) (roots : List (List ℕ)) → list_all (uses fabrics given) roots ≡ true → none_alike bytes_eq roots ≡ true → length (filter (is_idle fabrics) roots) ≤ 1
one_idle fabrics None roots used differ = omega (arith, none_idle fabrics roots used)
one_idle fabrics (Some given) roots used differ = one_passes given (uses fabrics (Some given)) (is_idle fabrics) (λ root its idle. idle_given fabrics (Some given) root its idle) roots used differ

pub few_idle : (fabrics : List Fabric) (armed : Option Armed) (roots : List (List ℕ)) → list_all (is_used fabrics armed) roots ≡ true → none_alike bytes_eq roots ≡ true
    → nat_le (count_by (is_idle fabrics) roots) (most_idle armed) ≡ true
few_idle fabrics None roots used differ =
    let count : length (filter (is_idle fabrics) roots) ≡ count_by (is_idle fabrics) roots = length-filter (is_idle fabrics) roots in
    le-leb (count_by (is_idle fabrics) roots) 0 (omega (arith, count, none_idle fabrics roots used))
few_idle fabrics (Some armed) roots used differ =
    let count : length (filter (is_idle fabrics) roots) ≡ count_by (is_idle fabrics) roots = length-filter (is_idle fabrics) roots in
    le-leb (count_by (is_idle fabrics) roots) 1 (omega (arith, count, one_idle fabrics armed.root roots used differ))
