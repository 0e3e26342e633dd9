-- What an action tells, and to whom.
use Rattle.std.proofs.Common.{◌≡◌, ℕ, ◌≤◌, ◌==◌, ◌||◌, not, is_some, if◌then◌else◌, Bool, true, false, List, [], ◌∷◌, ◌++◌, Option, Some, None, filter, refl, ap, sym, ◌∙◌, subst, inl, inr, arith, eqb-true}
use Rattle.std.specs.List.{find, list_all, list_any}
use Rattle.std.specs.Option.{option_map}
use Rattle.std.proofs.lemmas.Bool.{and_from, and_parts, cases_Bool, both_ways, eq-eqb, eqb-false, leb-true, or_left, or_right}
use Rattle.mt_fabrics.specs.Table.{has_index_up_to}
use Rattle.mt_model.specs.Optional.{is_that}
use Rattle.mt_model.specs.rows.Seen.{own_entries}
use Rattle.mt_model.specs.declared.node.action.NodeStep.{NodeStep}
use Rattle.mt_model.specs.declared.node.state.NodeState.{NodeState}
use Rattle.mt_model.specs.declared.tables.access.AclEntry.{AclEntry}
use Rattle.mt_model.specs.declared.tables.access.Actor.{Actor}
use Rattle.mt_model.specs.declared.tables.fabric.Fabric.{Fabric}
use Rattle.mt_apps.specs.EntryEvents.{entry_event, events_between}
use Rattle.mt_opcreds.specs.RemoveFabric.{leave_event}
use Rattle.mt_machine.specs.Effects.{events_in, is_event}
use Rattle.mt_machine.specs.State.{IsValid, is_among, is_member}
use Rattle.mt_machine.specs.Step.{gone_between}
use Rattle.mt_machine.specs.Telling.{is_leave, is_told_as, joined_between, joining_events, leaving_events, told_between}
use Rattle.mt_ledger.specs.history.History.{History, IsHistory, recorded_all, without_left}
use Rattle.mt_ledger.specs.history.Isolation.{own_events}
use Rattle.mt_ledger.proofs.Recording.{fabric_for, own_apart, recorded-append}
use Rattle.mt_ledger.proofs.Valid.{ForgottenAre, PushedAre, all_more, left_still}

-- The fabric that is gone between two tables was in the first, and is not in the second.

pub gone_left : (before now : List Fabric) (fabric : ℕ) → is_that fabric (gone_between before now) ≡ true → (is_among before fabric ≡ true) × (is_among now fabric ≡ false)
gone_left [] now fabric gone = absurd (both_ways false refl gone)
gone_left (f ∷ before) now fabric gone = elim (cases_Bool (is_among now f.index)) [
  | inl still ↦
      let rest = gone_left before now fabric (at true still) in
      (or_right (f.index == fabric) (is_among before fabric) rest.0, rest.1)
  | inr left ↦
      let its : (f.index == fabric) ≡ true = at false left in
      (or_left (f.index == fabric) (is_among before fabric) its, subst (λ n. is_among now n ≡ false) (eqb-true f.index fabric its) left)
]
  where
    at : (b : Bool) → is_among now f.index ≡ b
        → is_that fabric (option_map (λ (g : Fabric). g.index) (if not b then Some f else find (λ (g : Fabric). not (is_among now g.index)) before)) ≡ true
    at b is = subst (λ c. is_that fabric (option_map (λ (g : Fabric). g.index) (if not c then Some f else find (λ (g : Fabric). not (is_among now g.index)) before)) ≡ true) is gone

-- and so none is gone that is in both, or in neither
pub not_gone : (before now : List Fabric) (fabric : ℕ) → is_among now fabric ≡ is_among before fabric → is_that fabric (gone_between before now) ≡ false
not_gone before now fabric same = elim (cases_Bool (is_that fabric (gone_between before now))) [
  | inl gone ↦
      let left = gone_left before now fabric gone in
      absurd (both_ways (is_among now fabric) left.1 (same ∙ left.0))
  | inr stays ↦ stays
]

pub none_gone : (fabrics : List Fabric) → gone_between fabrics fabrics ≡ None
none_gone fabrics = none_of (gone_between fabrics fabrics) (λ fabric. not_gone fabrics fabrics fabric refl)
  where
    none_of : (gone : Option ℕ) → ((fabric : ℕ) → is_that fabric gone ≡ false) → gone ≡ None
    none_of None none = refl
    none_of (Some fabric) none = absurd (both_ways (fabric == fabric) (none fabric) (eq-eqb fabric fabric refl))

-- The indexes of a valid state are at most 16.
among_low : (fabrics : List Fabric) (fabric : ℕ) → list_all (has_index_up_to 16) fabrics ≡ true → is_among fabrics fabric ≡ true → fabric ≤ 16
among_low [] fabric all there = absurd (both_ways false refl there)
among_low (f ∷ fabrics) fabric all there =
    let both = and_parts (has_index_up_to 16 f) (list_all (has_index_up_to 16) fabrics) all in
    elim (cases_Bool (f.index == fabric)) [
      | inl its ↦ omega (arith, eqb-true f.index fabric its, leb-true f.index 16 both.0)
      | inr other ↦ among_low fabrics fabric both.1 (subst (λ b. (b || is_among fabrics fabric) ≡ true) other there)
    ]

pub member_low : (s : NodeState) (fabric : ℕ) → IsValid s → is_member fabric s ≡ true → fabric ≤ 16
member_low s fabric valid there = among_low s.fabrics fabric valid.indexes there

-- The events among steps, of a fabric that joins, and of one that leaves.

all_filter : {X : Type 0} (p q : X → Bool) (xs : List X) → list_all p xs ≡ true → list_all p (filter q xs) ≡ true
all_filter p q [] all = refl
all_filter p q (x ∷ xs) all =
    let both = and_parts (p x) (list_all p xs) all in
    elim (q x) as (λ b. list_all p (if b then x ∷ filter q xs else filter q xs) ≡ true) [
      | true ↦ and_from _ _ both.0 (all_filter p q xs both.1)
      | false ↦ all_filter p q xs both.1
    ]

pub events_told : (asking : Option Actor) (steps : List NodeStep) → list_all (is_told_as asking) steps ≡ true → list_all (is_told_as asking) (events_in steps) ≡ true
events_told asking steps told = all_filter (is_told_as asking) is_event steps told

entries_told : (actor : Actor) (entries : List AclEntry) → list_all (is_told_as (Some actor)) (events_between actor [] entries) ≡ true
unfolding entry_event
entries_told actor [] = refl
entries_told actor (entry ∷ entries) = and_from _ _ (or_right (actor.fabric == 0) (actor.fabric == actor.fabric) (eq-eqb actor.fabric actor.fabric refl)) (entries_told actor entries)

left_told : (fabric : ℕ) (b : Bool) → list_all (is_told_as None) (if b then [] else leave_event fabric ∷ []) ≡ true
left_told fabric true = refl
left_told fabric false = refl

leaving_told : (told : List NodeStep) (gone : Option ℕ) → list_all (is_told_as None) (leaving_events told gone) ≡ true
leaving_told told None = refl
leaving_told told (Some fabric) = left_told fabric (list_any is_leave told)

-- What is private to a fabric that does not join is among the events of the steps.

joining_apart : (fabric : ℕ) (asking : Option Actor) (entries : List AclEntry) (joined : Option ℕ) (now : ℕ) (h : History) → (is_some asking ≡ true → is_that fabric joined ≡ false) → own_events fabric (recorded_all now (joining_events asking entries joined) h) ≡ own_events fabric h
joining_apart fabric None entries joined now h apart = refl
joining_apart fabric (Some actor) entries None now h apart = refl
joining_apart fabric (Some actor) entries (Some other) now h apart =
    let joins = record actor { fabric = other } in
    own_apart fabric (Some joins) now (events_between joins [] (own_entries other entries)) h (entries_told joins (own_entries other entries)) (λ somebody same. eqb-false other fabric (apart refl) (sym same))

pub own_told : (fabric now : ℕ) (asking : Option Actor) (steps : List NodeStep) (before after : NodeState) (h : History) → (is_some asking ≡ true → is_that fabric (joined_between before.fabrics after.fabrics) ≡ false)
    → own_events fabric (recorded_all now (told_between asking steps before after) h) ≡ own_events fabric (recorded_all now (events_in steps) h)
own_told fabric now asking steps before after h apart =
    let joining = joining_events asking after.entries (joined_between before.fabrics after.fabrics) in
    let leaving = leaving_events (events_in steps) (gone_between before.fabrics after.fabrics) in
    let first = recorded_all now (events_in steps) h in
    ap (λ (k : History). own_events fabric k) (recorded-append now (events_in steps) (joining ++ leaving) h ∙ recorded-append now joining leaving first)
    ∙ own_apart fabric None now leaving (recorded_all now joining first) (leaving_told (events_in steps) (gone_between before.fabrics after.fabrics)) (λ somebody same. eqb-false fabric 0 somebody same)
    ∙ joining_apart fabric asking after.entries (joined_between before.fabrics after.fabrics) now first apart

-- All of it is told to fabrics that there may be.
joining_more : PushedAre → (asking : Option Actor) (entries : List AclEntry) (joined : Option ℕ) (now : ℕ) (h : History) → ((fabric : ℕ) → is_that fabric joined ≡ true → fabric ≤ 16) → IsHistory h → IsHistory (recorded_all now (joining_events asking entries joined) h)
joining_more pushed_are None entries joined now h low is = is
joining_more pushed_are (Some actor) entries None now h low is = is
joining_more pushed_are (Some actor) entries (Some other) now h low is =
    let joins = record actor { fabric = other } in
    all_more pushed_are (Some joins) now (events_between joins [] (own_entries other entries)) h (low other (eq-eqb other other refl)) (entries_told joins (own_entries other entries)) is

pub behind_still : PushedAre → ForgottenAre → (now : ℕ) (asking : Option Actor) (steps : List NodeStep) (before after : NodeState) (h : History) → fabric_for asking ≤ 16 → list_all (is_told_as asking) steps ≡ true → IsValid after → IsHistory h
    → IsHistory (recorded_all now (told_between asking steps before after) (without_left (gone_between before.fabrics after.fabrics) h))
behind_still pushed_are forgotten_are now asking steps before after h low told valid is =
    let joining = joining_events asking after.entries (joined_between before.fabrics after.fabrics) in
    let leaving = leaving_events (events_in steps) (gone_between before.fabrics after.fabrics) in
    let left = without_left (gone_between before.fabrics after.fabrics) h in
    let first = recorded_all now (events_in steps) left in
    subst (λ (k : History). IsHistory k) (sym (recorded-append now (events_in steps) (joining ++ leaving) left ∙ recorded-append now joining leaving first))
    (all_more pushed_are None now leaving (recorded_all now joining first) (omega arith) (leaving_told (events_in steps) (gone_between before.fabrics after.fabrics))
    (joining_more pushed_are asking after.entries (joined_between before.fabrics after.fabrics) now first
    (λ fabric joins. member_low after fabric valid (gone_left after.fabrics before.fabrics fabric joins).0)
    (all_more pushed_are asking now (events_in steps) left low (events_told asking steps told) (left_still forgotten_are (gone_between before.fabrics after.fabrics) h is))))
