-- Of roots that differ, each of which is used, there is at most one more than there are fabrics.
use Rattle.std.proofs.Common.{◌≡◌, ℕ, ◌+◌, ◌≤◌, inl, inr, not, bytes_eq, filter, length, Bool, true, false, List, [], ◌∷◌, Option, Some, None, refl, subst, sym, ap, arith}
use Rattle.std.specs.List.{list_all, list_any}
use Rattle.std.proofs.lemmas.Bool.{and_from, and_parts, cases_Bool, not-true, not_from_false, or_parts, or_from}
use Rattle.std.proofs.lemmas.Slice.Eq.{bytes_eq-Decides}
use Rattle.mt_model.specs.texts.Config.{none_alike}
use Rattle.mt_model.specs.declared.tables.fabric.Fabric.{Fabric}
use Rattle.mt_model.specs.declared.tables.network.Armed.{Armed}
use Rattle.mt_machine.specs.State.{is_given_root, is_used}

-- those that are not this one
abbrev others : List ℕ → List (List ℕ) → List (List ℕ)
others one roots = filter (λ (root : List ℕ). not (bytes_eq one root)) roots

-- where this one is not among them, all are others
all_others : (one : List ℕ) (roots : List (List ℕ)) → list_any (bytes_eq one) roots ≡ false → others one roots ≡ roots
all_others one [] none = refl
all_others one (root ∷ roots) none =
    let apart = or_parts (bytes_eq one root) (list_any (bytes_eq one) roots) none in
    rw apart.0 (ap (λ (l : List (List ℕ)). root ∷ l) (all_others one roots apart.1))

-- of those that differ, at most one is not among the others
one_less : (one : List ℕ) (roots : List (List ℕ)) → none_alike bytes_eq roots ≡ true → length roots ≤ 1 + length (others one roots)
one_less one [] differ = omega arith
one_less one (root ∷ roots) differ =
    let apart = and_parts (not (list_any (bytes_eq root) roots)) (none_alike bytes_eq roots) differ in
    elim (cases_Bool (bytes_eq one root)) [
      | inl here ↦
          let same : one ≡ root = (bytes_eq-Decides one root).0 here in
          let none : list_any (bytes_eq one) roots ≡ false = subst (λ (r : List ℕ). list_any (bytes_eq r) roots ≡ false) (sym same) (not-true (list_any (bytes_eq root) roots) apart.0) in
          rw here (omega (arith, ap length (all_others one roots none)))
      | inr other ↦ rw other (omega (arith, one_less one roots apart.1))
    ]

not_any : (p keep : List ℕ → Bool) (roots : List (List ℕ)) → list_any p roots ≡ false → list_any p (filter keep roots) ≡ false
not_any p keep [] none = none
not_any p keep (root ∷ roots) none =
    let apart = or_parts (p root) (list_any p roots) none in
    elim (cases_Bool (keep root)) [
      | inl kept ↦ rw kept (or_from _ _ apart.0 (not_any p keep roots apart.1))
      | inr gone ↦ rw gone (not_any p keep roots apart.1)
    ]

still_differ : (keep : List ℕ → Bool) (roots : List (List ℕ)) → none_alike bytes_eq roots ≡ true → none_alike bytes_eq (filter keep roots) ≡ true
still_differ keep [] differ = differ
still_differ keep (root ∷ roots) differ =
    let apart = and_parts (not (list_any (bytes_eq root) roots)) (none_alike bytes_eq roots) differ in
    elim (cases_Bool (keep root)) [
      | inl kept ↦ rw kept (and_from _ _ (not_from_false _ (not_any (bytes_eq root) keep roots (not-true _ apart.0))) (still_differ keep roots apart.1))
      | inr gone ↦ rw gone (still_differ keep roots apart.1)
    ]

-- those that are not the root of a fabric are used by the other fabrics
still_used : (fabric : Fabric) (fabrics : List Fabric) (armed : Option Armed) (roots : List (List ℕ)) → list_all (is_used (fabric ∷ fabrics) armed) roots ≡ true
    → list_all (is_used fabrics armed) (others fabric.credentials.root roots) ≡ true
still_used fabric fabrics armed [] used = used
still_used fabric fabrics armed (root ∷ roots) used =
    let both = and_parts (is_used (fabric ∷ fabrics) armed root) (list_all (is_used (fabric ∷ fabrics) armed) roots) used in
    elim (cases_Bool (bytes_eq fabric.credentials.root root)) [
      | inl here ↦ rw here (still_used fabric fabrics armed roots both.1)
      | inr other ↦
          let its : is_used fabrics armed root ≡ true = rw other at both.0 in
          rw other (and_from _ _ its (still_used fabric fabrics armed roots both.1))
    ]

-- without fabrics there is at most the one that was given

given_others : (given : List ℕ) (roots : List (List ℕ)) → list_all (bytes_eq given) roots ≡ true → others given roots ≡ []
given_others given [] used = refl
given_others given (root ∷ roots) used =
    let both = and_parts (bytes_eq given root) (list_all (bytes_eq given) roots) used in
    rw both.0 (given_others given roots both.1)

by_given : (given : Option (List ℕ)) (roots : List (List ℕ)) → none_alike bytes_eq roots ≡ true → list_all (λ (root : List ℕ). is_given_root root given) roots ≡ true → length roots ≤ 1
by_given None [] differ used = omega arith
by_given None (root ∷ roots) differ used = absurd cc
by_given (Some given) roots differ used = omega (arith, one_less given roots differ, ap length (given_others given roots used))

by_none : (armed : Option Armed) (roots : List (List ℕ)) → none_alike bytes_eq roots ≡ true → list_all (is_used [] armed) roots ≡ true → length roots ≤ 1
by_none None [] differ used = omega arith
by_none None (root ∷ roots) differ used = absurd cc
by_none (Some armed) roots differ used = by_given armed.root roots differ used

pub few_roots : (fabrics : List Fabric) (armed : Option Armed) (roots : List (List ℕ)) → none_alike bytes_eq roots ≡ true → list_all (is_used fabrics armed) roots ≡ true → length roots ≤ 1 + length fabrics
few_roots [] armed roots differ used = by_none armed roots differ used
few_roots (fabric ∷ fabrics) armed roots differ used =
    let root = fabric.credentials.root in
    omega (arith, one_less root roots differ, few_roots fabrics armed (others root roots) (still_differ _ roots differ) (still_used fabric fabrics armed roots used))
