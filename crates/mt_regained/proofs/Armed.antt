-- The roots and the fail-safe of a state that is regained are those of a valid state.
use Rattle.std.proofs.Common.{◌≡◌, ◌∙◌, refl, sym, ap, subst, ℕ, ◌≤◌, inl, inr, ◌&&◌, ◌||◌, nat_le, bytes_eq, count_by, Bool, true, false, List, [], ◌∷◌, Option, Some, None, filter, length, arith}
use Rattle.std.proofs.lemmas.Bool.{and_from, and_parts, cases_Bool, leb-true, not-false, or_left, or_right}
use Rattle.std.proofs.lemmas.List.Sums.{length-filter}
use Rattle.std.proofs.lemmas.Slice.Eq.{bytes_eq-Decides}
use Rattle.std.specs.List.{find, list_all, list_any}
use Rattle.std.specs.Option.{option_map}
use Rattle.mt_failsafe.specs.Facts.{is_added_to, is_updated_in}
use Rattle.mt_model.specs.tables.Holding.{is_root_of, saves_identity}
use Rattle.mt_model.specs.texts.Config.{is_certificate, none_alike}
use Rattle.mt_model.specs.declared.tables.fabric.Credentials.{Credentials}
use Rattle.mt_model.specs.declared.tables.fabric.Fabric.{Fabric}
use Rattle.mt_model.specs.declared.tables.network.Armed.{Armed}
use Rattle.mt_model.specs.declared.tables.network.Network.{Network}
use Rattle.mt_grammar.specs.Facts.{are_networks, are_roots, are_saved, is_failsafe, is_for_known, most_idle}
use Rattle.mt_grammar.specs.Facts as facts
use Rattle.mt_grammar.specs.declared.kept.MapContents.{MapContents}
use Rattle.mt_machine.specs.State.{is_awaited_root, is_certificate_if, is_given_root, is_nonce_if, is_used, keeps_facts, names_rightly, saves_rightly, was_given_rightly}
use Rattle.mt_machine.specs.State as state
use Rattle.mt_grammar.specs.Facts.{is_idle}
use Rattle.mt_regained.specs.Regained.{with_given_root}
use Rattle.mt_regained.proofs.Lists.{all-weaker}
use Rattle.mt_regained.proofs.Read.{IsPlain}

-- Roots.

module _ (fabrics : List Fabric) where
  abbrev is_busy : List ℕ → Bool
  is_busy root = list_any (is_root_of root) fabrics

  abbrev uses : Option (List ℕ) → List ℕ → Bool
  uses given root = is_busy root || is_given_root root given

  busy : (root : List ℕ) → is_idle fabrics root ≡ false → is_busy root ≡ true
  busy root not_idle = not-false (is_busy root) not_idle

  none_idle : (given : Option (List ℕ)) (roots : List (List ℕ)) → length (filter (is_idle fabrics) roots) ≤ 0 → list_all (uses given) roots ≡ true
  none_idle given [] few = refl
  none_idle given (root ∷ roots) few = elim (cases_Bool (is_idle fabrics root)) [
    | inl idle ↦
        let more : length (root ∷ filter (is_idle fabrics) roots) ≤ 0 = rw idle at few in
        absurd (omega (arith, more))
    | inr not_idle ↦
        let rest : length (filter (is_idle fabrics) roots) ≤ 0 = rw not_idle at few in
        and_from _ _ (or_left (is_busy root) (is_given_root root given) (busy root not_idle)) (none_idle given roots rest)
  ]

  one_idle : (roots : List (List ℕ)) → length (filter (is_idle fabrics) roots) ≤ 1 → list_all (uses (find (is_idle fabrics) roots)) roots ≡ true
  one_idle [] few = refl
  one_idle (root ∷ roots) few = elim (cases_Bool (is_idle fabrics root)) [
    | inl idle ↦
        let more : length (root ∷ filter (is_idle fabrics) roots) ≤ 1 = rw idle at few in
        let rest : length (filter (is_idle fabrics) roots) ≤ 0 = omega (arith, more) in
        let first : uses (Some root) root ≡ true = or_right (is_busy root) (bytes_eq root root) ((bytes_eq-Decides root root).1 refl) in
        let all : list_all (uses (Some root)) (root ∷ roots) ≡ true = and_from _ _ first (none_idle (Some root) roots rest) in
        let found : find (is_idle fabrics) (root ∷ roots) ≡ Some root = rw idle refl in
        subst (λ (given : Option (List ℕ)). list_all (uses given) (root ∷ roots) ≡ true) (sym found) all
    | inr not_idle ↦
        let rest : length (filter (is_idle fabrics) roots) ≤ 1 = rw not_idle at few in
        let given = find (is_idle fabrics) roots in
        let all : list_all (uses given) (root ∷ roots) ≡ true = and_from _ _ (or_left (is_busy root) (is_given_root root given) (busy root not_idle)) (one_idle roots rest) in
        let found : find (is_idle fabrics) (root ∷ roots) ≡ given = rw not_idle refl in
        subst (λ (one : Option (List ℕ)). list_all (uses one) (root ∷ roots) ≡ true) (sym found) all
  ]

find_certificate : (p : List ℕ → Bool) (roots : List (List ℕ)) → list_all is_certificate roots ≡ true → is_certificate_if (find p roots) ≡ true
find_certificate p [] all = refl
find_certificate p (root ∷ roots) all =
    let both = and_parts (is_certificate root) (list_all is_certificate roots) all in
    elim (cases_Bool (p root)) [
      | inl here ↦
          let found : find p (root ∷ roots) ≡ Some root = rw here refl in
          ap is_certificate_if found ∙ both.0
      | inr later ↦
          let found : find p (root ∷ roots) ≡ find p roots = rw later refl in
          ap is_certificate_if found ∙ find_certificate p roots both.1
    ]

abbrev RootFacts : List Fabric → Option Armed → List (List ℕ) → Type 0
RootFacts fabrics armed roots = (list_all is_certificate roots ≡ true) × (none_alike bytes_eq roots ≡ true) × (length (filter (is_idle fabrics) roots) ≤ most_idle armed)

pub root_facts : (fabrics : List Fabric) (armed : Option Armed) (roots : List (List ℕ)) → are_roots fabrics armed roots ≡ true → RootFacts fabrics armed roots
unfolding are_roots
root_facts fabrics armed roots holds =
    let outer = and_parts (list_all is_certificate roots) (none_alike bytes_eq roots && nat_le (count_by (is_idle fabrics) roots) (most_idle armed)) holds in
    let inner = and_parts (none_alike bytes_eq roots) (nat_le (count_by (is_idle fabrics) roots) (most_idle armed)) outer.1 in
    let few : count_by (is_idle fabrics) roots ≤ most_idle armed = leb-true (count_by (is_idle fabrics) roots) (most_idle armed) inner.1 in
    (outer.0, inner.0, subst (λ (n : ℕ). n ≤ most_idle armed) (sym (length-filter (is_idle fabrics) roots)) few)

pub roots_used : (kept : MapContents) (armed : Option Armed) → length (filter (is_idle kept.fabrics) kept.roots) ≤ most_idle armed → list_all (is_used kept.fabrics (option_map (with_given_root kept) armed)) kept.roots ≡ true
roots_used kept None few = all-weaker (uses kept.fabrics None) (is_used kept.fabrics None) (λ root its. its) kept.roots (none_idle kept.fabrics None kept.roots few)
roots_used kept (Some armed) few = one_idle kept.fabrics kept.roots few

-- Networks.

pub network_facts : (networks : List Network) → are_networks networks ≡ true → state.are_networks networks ≡ true
unfolding are_networks
network_facts networks holds = holds

-- The fail-safe.

added_given : (there : ℕ → Bool) (kept : MapContents) (armed : Armed) (added : Option ℕ) → is_added_to there armed added ≡ true → is_added_to there (with_given_root kept armed) added ≡ true
added_given there kept armed None holds = holds
added_given there kept armed (Some fabric) holds = holds

updated_given : (saves : ℕ → Option Credentials → Bool) (kept : MapContents) (armed : Armed) (added updated : Option ℕ) → is_updated_in saves armed added updated ≡ true → is_updated_in saves (with_given_root kept armed) added updated ≡ true
updated_given saves kept armed added None holds = holds
updated_given saves kept armed None (Some fabric) holds = holds
updated_given saves kept armed (Some one) (Some fabric) holds = holds

saved_fits : (armed : Armed) (saved : Option Credentials) → state.are_networks armed.saved_networks ≡ true → are_saved saved ≡ true → saves_rightly (Some (record armed { saved_credentials = saved })) ≡ true
saved_fits armed None networks holds = and_from _ _ networks refl
saved_fits armed (Some saved) networks holds = and_from _ _ networks holds

pub record IsGood (fabrics : List Fabric) (armed : Option Armed) : Type 0 where
  pub keeps : keeps_facts fabrics armed ≡ true
  pub names : names_rightly fabrics armed ≡ true
  pub saves : saves_rightly armed ≡ true
  pub given : was_given_rightly armed ≡ true

pub failsafe_good : (kept : MapContents) (armed : Option Armed) → is_failsafe kept.fabrics armed ≡ true → IsPlain armed → list_all is_certificate kept.roots ≡ true → IsGood kept.fabrics (option_map (with_given_root kept) armed)
unfolding is_failsafe
failsafe_good kept None holds plain certificates = record { keeps = refl; names = refl; saves = refl; given = refl }
failsafe_good kept (Some armed) holds plain certificates =
    let fabrics = kept.fabrics in
    let one = and_parts (is_for_known fabrics armed) (facts.is_added fabrics armed && (facts.is_updated fabrics armed && (are_saved armed.saved_credentials && are_networks armed.saved_networks))) holds in
    let two = and_parts (facts.is_added fabrics armed) (facts.is_updated fabrics armed && (are_saved armed.saved_credentials && are_networks armed.saved_networks)) one.1 in
    let three = and_parts (facts.is_updated fabrics armed) (are_saved armed.saved_credentials && are_networks armed.saved_networks) two.1 in
    let four = and_parts (are_saved armed.saved_credentials) (are_networks armed.saved_networks) three.1 in
    let no_csr : armed.csr ≡ None = ap (λ (a : Armed). a.csr) (sym plain.1) in
    record {
      keeps = and_from _ _ (added_given (state.is_among fabrics) kept armed armed.added two.0) (updated_given (saves_identity fabrics) kept armed armed.added armed.updated three.0);
      names = and_from _ _ plain.0 one.0;
      saves = saved_fits armed armed.saved_credentials (network_facts armed.saved_networks four.1) four.0;
      given = and_from _ _ (find_certificate (is_idle fabrics) kept.roots certificates) (ap is_nonce_if no_csr);
    }
