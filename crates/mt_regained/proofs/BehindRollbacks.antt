-- What a rollback leaves under the keys that it does not name.
use Rattle.std.proofs.Common.{◌≡◌, ◌∙◌, refl, sym, ap, subst, ℕ, ◌≤◌, inl, inr, ◌==◌, not, nat_lt, Bool, true, false, List, [], ◌∷◌, Option, Some, None, Result, Ok, Err, filter, arith, if◌then◌else◌}
use Rattle.std.proofs.lemmas.Bool.{and_parts, cases_Bool, eqb-true, ltb-true, not-true, or_cases}
use Rattle.std.specs.List.{find, list_all}
use Rattle.mt_fabrics.specs.Table as table
use Rattle.mt_meta.specs.declared.meta.Meta.{Meta}
use Rattle.mt_model.specs.Optional.{is_that}
use Rattle.mt_model.specs.rows.Order.{rise_above}
use Rattle.mt_model.specs.tables.Leaving.{stays}
use Rattle.mt_model.specs.declared.messages.status.Status.{Status}
use Rattle.mt_model.specs.declared.node.state.NodeState.{NodeState}
use Rattle.mt_model.specs.declared.rows.place.Row.{Row}
use Rattle.mt_model.specs.declared.tables.fabric.Credentials.{Credentials}
use Rattle.mt_model.specs.declared.tables.fabric.Fabric.{Fabric}
use Rattle.mt_model.specs.declared.tables.network.Armed.{Armed}
use Rattle.mt_machine.specs.Rollback.{fabrics_behind, given_back}
use Rattle.mt_machine.specs.State.{IsValid, is_added, is_among, is_row_at, is_row_of, is_updated, keeps_facts}
use Rattle.mt_lasting.specs.Values.{has_index}

-- one test after another that it implies of each that is there
pub filter-implied : {X : Type 0} (p weak strong : X → Bool) → ((x : X) → p x ≡ true → strong x ≡ true → weak x ≡ true) → (xs : List X) → list_all p xs ≡ true → filter strong (filter weak xs) ≡ filter strong xs
filter-implied p weak strong implied [] all = refl
filter-implied p weak strong implied (x ∷ xs) all =
    let both = and_parts (p x) (list_all p xs) all in
    elim (cases_Bool (strong x)) [
      | inl kept ↦ rw (implied x both.0 kept, kept) (ap (λ (l : List _). x ∷ l) (filter-implied p weak strong implied xs both.1))
      | inr gone ↦ elim (cases_Bool (weak x)) [
        | inl its ↦ rw (its, gone) (filter-implied p weak strong implied xs both.1)
        | inr none ↦ rw (none, gone) (filter-implied p weak strong implied xs both.1)
      ]
    ]

-- a fabric that was not added stays
pub stays_other : (added : Option ℕ) (fabric one : ℕ) → is_that fabric added ≡ false → (one == fabric) ≡ true → stays added one ≡ true
stays_other added fabric one other its = ap (stays added) (eqb-true one fabric its) ∙ ap not other

-- Nobody's rows stay: no fabric has the index 0.

pub none_below : (index least : ℕ) (fabrics : List Fabric) → index ≤ least → rise_above least fabrics ≡ true → table.is_used index fabrics ≡ true → ⊥
none_below index least [] lower up used = absurd cc
none_below index least (fabric ∷ fabrics) lower up used =
    let both = and_parts (nat_lt least fabric.index) (rise_above fabric.index fabrics) up in
    let above = ltb-true least fabric.index both.0 in
    elim (or_cases (fabric.index == index) (table.is_used index fabrics) used) [
      | inl here ↦
          let its = eqb-true fabric.index index here in
          absurd (omega (arith, above, lower, its))
      | inr later ↦ none_below index fabric.index fabrics (omega (arith, above, lower)) both.1 later
    ]

added_there : (fabrics : List Fabric) (armed : Armed) (added : Option ℕ) → rise_above 0 fabrics ≡ true → is_added fabrics armed added ≡ true → stays added 0 ≡ true
added_there fabrics armed None up facts = refl
added_there fabrics armed (Some index) up facts = elim (cases_Bool (index == 0)) [
  | inr other ↦ ap not other
  | inl none ↦
      let among : is_among fabrics index ≡ true = (and_parts (armed.context == index) (is_among fabrics index) facts).1 in
      absurd (none_below 0 0 fabrics (omega arith) up (subst (λ (n : ℕ). is_among fabrics n ≡ true) (eqb-true index 0 none) among))
]

pub nobody_stays : (s : NodeState) (armed : Armed) → IsValid s → s.armed ≡ Some armed → stays armed.added 0 ≡ true
nobody_stays s armed valid is =
    let facts : keeps_facts s.fabrics (Some armed) ≡ true = ap (keeps_facts s.fabrics) (sym is) ∙ valid.failsafe_facts in
    added_there s.fabrics armed armed.added valid.fabrics_rise (and_parts (is_added s.fabrics armed armed.added) (is_updated s.fabrics armed armed.added armed.updated) facts).0

pub nobodys : (fabrics : List Fabric) (row : Row) (found : Result Meta Status) (meta : Meta) → found ≡ Ok meta → not meta.scoped ≡ true → is_row_at fabrics row found ≡ true → (row.fabric == 0) ≡ true
nobodys fabrics row (Err status) meta is unscoped stands = absurd cc
nobodys fabrics row (Ok one) meta is unscoped stands =
    let same : one ≡ meta = cc in
    let none : one.scoped ≡ false = ap (λ (m : Meta). m.scoped) same ∙ not-true meta.scoped unscoped in
    let its : is_row_of fabrics one.scoped row.fabric ≡ true = (and_parts _ (is_row_of fabrics one.scoped row.fabric) stands).1 in
    ap (λ (b : Bool). if b then is_among fabrics row.fabric else row.fabric == 0) (sym none) ∙ its

-- Fabrics: one that was neither added nor updated is found as it was.

pub given_index : (updated : Option ℕ) (saved : Option Credentials) (fabric : Fabric) → (given_back updated saved fabric).index ≡ fabric.index
given_index None saved fabric = refl
given_index (Some index) None fabric = refl
given_index (Some index) (Some saved) fabric = elim (cases_Bool (fabric.index == index)) [
  | inl its ↦ rw its refl
  | inr other ↦ rw other refl
]

given_same : (index : ℕ) (updated : Option ℕ) (saved : Option Credentials) (fabric : Fabric) → is_that index updated ≡ false → fabric.index ≡ index → given_back updated saved fabric ≡ fabric
given_same index None saved fabric other is = refl
given_same index (Some one) None fabric other is = refl
given_same index (Some one) (Some saved) fabric other is = elim (cases_Bool (fabric.index == one)) [
  | inr apart ↦ rw apart refl
  | inl its ↦
      let same : fabric.index ≡ one = eqb-true fabric.index one its in
      let wrong : (fabric.index == fabric.index) ≡ false = ap (λ (n : ℕ). n == fabric.index) same ∙ ap (λ (n : ℕ). one == n) is ∙ other in
      absurd cc
]

pub found_behind : (armed : Armed) (index : ℕ) → is_that index armed.added ≡ false → is_that index armed.updated ≡ false → (fabrics : List Fabric) → find (has_index index) (fabrics_behind armed fabrics) ≡ find (has_index index) fabrics
found_behind armed index added updated [] = refl
found_behind armed index added updated (fabric ∷ fabrics) = elim (cases_Bool (fabric.index == index)) [
  | inl here ↦
      let is : fabric.index ≡ index = eqb-true fabric.index index here in
      let kept : stays armed.added fabric.index ≡ true = stays_other armed.added index fabric.index added here in
      let same = given_same index armed.updated armed.saved_credentials fabric updated is in
      rw (kept, same, here) refl
  | inr other ↦
      let rest = found_behind armed index added updated fabrics in
      let none : has_index index (given_back armed.updated armed.saved_credentials fabric) ≡ false = ap (λ (n : ℕ). n == index) (given_index armed.updated armed.saved_credentials fabric) ∙ other in
      elim (cases_Bool (stays armed.added fabric.index)) [
        | inl kept ↦ rw (kept, none, other) rest
        | inr gone ↦ rw (gone, other) rest
      ]
]
