-- What each call makes of subscriptions keeps the rules on them.
use Rattle.std.proofs.Common.{◌≡◌, ℕ, ◌+◌, ◌<◌, ◌≤◌, ◌==◌, ◌||◌, nat_lt, not, Bool, true, false, List, [], ◌∷◌, ◌++◌, length, get_or, slice_set, count_by, filter, map, refl, ap, sym, ◌∙◌, cond, inl, inr, arith, eqb-true, if◌then◌else◌}
use Rattle.std.specs.List.{list_all}
use Rattle.std.proofs.lemmas.Bool.{eqb-false, and_from, and_parts, cases_Bool, cond-true, cond-false, leb-false, lt-ltb, ltb-true, not_from_false}
use Rattle.std.proofs.lemmas.List.{get_or-set_other, get_or-set_same, length-set}
use Rattle.std.proofs.lemmas.List.Folds.{list_all-append}
use Rattle.mt_subs.specs.declared.subscription.Kept.{Kept}
use Rattle.mt_subs.specs.declared.subscription.Sub.{Sub}
use Rattle.mt_subs.specs.declared.subscription.SubState.{SubState}
use Rattle.mt_subs.specs.declared.subscription.Subscription.{Subscription}
use Rattle.mt_subs.specs.Leaving.{staying}
use Rattle.mt_subs.specs.Subscriptions.{IsSubs, added, begun, changed, changed_at, ended, first_ids, ids_ascend, is_full, is_named, is_of, is_other, is_used, may_come_after, next_id, none, was_given}
use Rattle.mt_subs.proofs.Lists.{all_filter, all_imply, all_stay, count_filter, count_map, count_more, none_changes, none_imply}
use Rattle.mt_subs.proofs.Places.{names}

pub none_is : IsSubs none
unfolding first_ids
none_is = record { few = λ fabric. omega arith; ascend = refl; given = refl; indexed = refl }

-- an id that is not below the next one is nobody's
pub not_given : (fabric id : ℕ) (subs : SubState) → IsSubs subs → next_id fabric subs ≤ id → is_used fabric id subs ≡ false
not_given fabric id subs is high = none_imply (was_given subs.next_ids) (is_named fabric id) other subs.subscriptions is.given
  where
    other : (s : Subscription) → was_given subs.next_ids s ≡ true → is_named fabric id s ≡ false
    other s given = elim (cases_Bool (is_named fabric id s)) [
      | inr fails ↦ fails
      | inl holds ↦
          let named = names fabric id s holds in
          let low : s.id < get_or subs.next_ids s.fabric 0 = ltb-true s.id (get_or subs.next_ids s.fabric 0) given in
          let same : get_or subs.next_ids s.fabric 0 ≡ get_or subs.next_ids fabric 0 = ap (λ f. get_or subs.next_ids f 0) named.0 in
          absurd (omega (arith, low, same, named.1, high))
    ]

-- One more, whose id is above all of its fabric.

ascend_more : (ss : List Subscription) (s : Subscription) → ids_ascend ss ≡ true → list_all (λ t. may_come_after t s) ss ≡ true → ids_ascend (ss ++ s ∷ []) ≡ true
ascend_more [] s up all = refl
ascend_more (t ∷ ts) s up all =
    let parts = and_parts (list_all (may_come_after t) ts) (ids_ascend ts) up in
    let here = and_parts (may_come_after t s) (list_all (λ t. may_come_after t s) ts) all in
    and_from _ _ (list_all-append (may_come_after t) ts (s ∷ []) ∙ and_from _ _ parts.0 (and_from _ _ here.0 refl)) (ascend_more ts s parts.1 here.1)

or_second : (a b : Bool) → b ≡ true → (a || b) ≡ true
or_second true b e = refl
or_second false b e = e

or_first : (a b : Bool) → a ≡ true → (a || b) ≡ true
or_first a b e = ap (λ x. x || b) e

pub added_is : (fabric : ℕ) (sub : Sub) (subs : SubState) → fabric < 256 → IsSubs subs → is_full fabric subs ≡ false → IsSubs (added fabric sub subs)
added_is fabric sub subs small is room = record {
  few = λ f. few_after f;
  ascend = ascend_more subs.subscriptions one is.ascend (all_imply (was_given subs.next_ids) (λ t. may_come_after t one) comes_after subs.subscriptions is.given);
  given = list_all-append (was_given next_ids) subs.subscriptions (one ∷ []) ∙ and_from _ _ (all_imply (was_given subs.next_ids) (was_given next_ids) still_given subs.subscriptions is.given) (and_from _ _ now_given refl);
  indexed = length-set subs.next_ids fabric (next + 1) ∙ is.indexed;
}
  where
    next : ℕ
    next = next_id fabric subs

    one : Subscription
    one = record { fabric = fabric; id = next; kept = begun sub }

    next_ids : List ℕ
    next_ids = slice_set subs.next_ids fabric (next + 1)

    few_after : (f : ℕ) → count_by (is_of f) (subs.subscriptions ++ one ∷ []) ≤ 3
    few_after f =
        let more : count_by (is_of f) (subs.subscriptions ++ one ∷ []) ≡ count_by (is_of f) subs.subscriptions + cond {A = ℕ} (fabric == f) 1 0 = count_more (is_of f) subs.subscriptions one in
        let before = is.few f in
        elim (cases_Bool (fabric == f)) [
          | inl same ↦
              let low : count_by (is_of fabric) subs.subscriptions < 3 = leb-false 3 (count_by (is_of fabric) subs.subscriptions) room in
              let here : count_by (is_of f) subs.subscriptions ≡ count_by (is_of fabric) subs.subscriptions = ap (λ g. count_by (is_of g) subs.subscriptions) (sym (eqb-true fabric f same)) in
              let one_more : cond {A = ℕ} (fabric == f) 1 0 ≡ 1 = cond-true (fabric == f) 1 0 same in
              omega (arith, more, low, here, one_more)
          | inr other ↦
              let no_more : cond {A = ℕ} (fabric == f) 1 0 ≡ 0 = cond-false (fabric == f) 1 0 other in
              omega (arith, more, before, no_more)
        ]

    comes_after : (t : Subscription) → was_given subs.next_ids t ≡ true → may_come_after t one ≡ true
    comes_after t given = elim (cases_Bool (t.fabric == fabric)) [
      | inl same ↦
          let low : t.id < get_or subs.next_ids t.fabric 0 = ltb-true t.id (get_or subs.next_ids t.fabric 0) given in
          let here : get_or subs.next_ids t.fabric 0 ≡ get_or subs.next_ids fabric 0 = ap (λ f. get_or subs.next_ids f 0) (eqb-true t.fabric fabric same) in
          or_second (not (t.fabric == fabric)) (nat_lt t.id (get_or subs.next_ids fabric 0)) (lt-ltb t.id (get_or subs.next_ids fabric 0) (omega (arith, low, here)))
      | inr other ↦ or_first (not (t.fabric == fabric)) (nat_lt t.id (get_or subs.next_ids fabric 0)) (not_from_false _ other)
    ]

    within : fabric < length subs.next_ids
    within = let all = is.indexed in omega (arith, all, small)

    at_own : get_or (slice_set subs.next_ids fabric (get_or subs.next_ids fabric 0 + 1)) fabric 0 ≡ get_or subs.next_ids fabric 0 + 1
    at_own = get_or-set_same subs.next_ids fabric (get_or subs.next_ids fabric 0 + 1) 0 within

    still_given : (t : Subscription) → was_given subs.next_ids t ≡ true → was_given (slice_set subs.next_ids fabric (get_or subs.next_ids fabric 0 + 1)) t ≡ true
    still_given t given = elim (cases_Bool (t.fabric == fabric)) [
      | inl same ↦
          let is_own : t.fabric ≡ fabric = eqb-true t.fabric fabric same in
          let low : t.id < get_or subs.next_ids t.fabric 0 = ltb-true t.id (get_or subs.next_ids t.fabric 0) given in
          let here : get_or subs.next_ids t.fabric 0 ≡ get_or subs.next_ids fabric 0 = ap (λ f. get_or subs.next_ids f 0) is_own in
          let there : get_or (slice_set subs.next_ids fabric (get_or subs.next_ids fabric 0 + 1)) t.fabric 0 ≡ get_or subs.next_ids fabric 0 + 1 = ap (λ f. get_or (slice_set subs.next_ids fabric (get_or subs.next_ids fabric 0 + 1)) f 0) is_own ∙ at_own in
          lt-ltb _ _ (omega (arith, low, here, there))
      | inr other ↦
          let there : get_or (slice_set subs.next_ids fabric (get_or subs.next_ids fabric 0 + 1)) t.fabric 0 ≡ get_or subs.next_ids t.fabric 0 = get_or-set_other subs.next_ids fabric t.fabric (get_or subs.next_ids fabric 0 + 1) 0 (eqb-false t.fabric fabric other) in
          ap (λ n. nat_lt t.id n) there ∙ given
    ]

    now_given : was_given (slice_set subs.next_ids fabric (get_or subs.next_ids fabric 0 + 1)) (record { fabric = fabric; id = get_or subs.next_ids fabric 0; kept = begun sub }) ≡ true
    now_given = lt-ltb _ _ (omega (arith, at_own))

-- A change to one.

module _ (fabric id : ℕ) (change : Kept → Kept) where
  same_fabric : (s : Subscription) → (changed_at fabric id change s).fabric ≡ s.fabric
  same_fabric s = elim (is_named fabric id s) as (λ b. (if b then record s { kept = change s.kept } else s).fabric ≡ s.fabric) [ true ↦ refl | false ↦ refl ]

  same_id : (s : Subscription) → (changed_at fabric id change s).id ≡ s.id
  same_id s = elim (is_named fabric id s) as (λ b. (if b then record s { kept = change s.kept } else s).id ≡ s.id) [ true ↦ refl | false ↦ refl ]

  all_after : (s : Subscription) (ss : List Subscription) → list_all (may_come_after s) ss ≡ true → list_all (may_come_after (changed_at fabric id change s)) (map (changed_at fabric id change) ss) ≡ true
  all_after s [] all = refl
  all_after s (t ∷ ts) all =
      let parts = and_parts (may_come_after s t) (list_all (may_come_after s) ts) all in
      and_from _ _ ((λ i. not (same_fabric s i == same_fabric t i) || nat_lt (same_id s i) (same_id t i)) ∙ parts.0) (all_after s ts parts.1)

  ascend_map : (ss : List Subscription) → ids_ascend ss ≡ true → ids_ascend (map (changed_at fabric id change) ss) ≡ true
  ascend_map [] up = refl
  ascend_map (s ∷ ss) up =
      let parts = and_parts (list_all (may_come_after s) ss) (ids_ascend ss) up in
      and_from _ _ (all_after s ss parts.0) (ascend_map ss parts.1)

  given_map : (next_ids : List ℕ) (ss : List Subscription) → list_all (was_given next_ids) ss ≡ true → list_all (was_given next_ids) (map (changed_at fabric id change) ss) ≡ true
  given_map next_ids [] all = refl
  given_map next_ids (s ∷ ss) all =
      let parts = and_parts (was_given next_ids s) (list_all (was_given next_ids) ss) all in
      and_from _ _ ((λ i. nat_lt (same_id s i) (get_or next_ids (same_fabric s i) 0)) ∙ parts.0) (given_map next_ids ss parts.1)

  pub changed_is : (subs : SubState) → IsSubs subs → IsSubs (changed fabric id change subs)
  changed_is subs is = record {
    few = λ f. let before = is.few f in omega (arith, before, count_map (is_of f) (changed_at fabric id change) (λ s. ap (λ g. g == f) (same_fabric s)) subs.subscriptions);
    ascend = ascend_map subs.subscriptions is.ascend;
    given = given_map subs.next_ids subs.subscriptions is.given;
    indexed = is.indexed;
  }

-- Without some.

ascend_filter : (p : Subscription → Bool) (ss : List Subscription) → ids_ascend ss ≡ true → ids_ascend (filter p ss) ≡ true
ascend_filter p [] up = refl
ascend_filter p (s ∷ ss) up =
    let parts = and_parts (list_all (may_come_after s) ss) (ids_ascend ss) up in
    elim (p s) as (λ b. ids_ascend (cond b (s ∷ filter p ss) (filter p ss)) ≡ true) [
      | true ↦ and_from _ _ (all_filter (may_come_after s) p ss parts.0) (ascend_filter p ss parts.1)
      | false ↦ ascend_filter p ss parts.1
    ]

pub staying_is : (stays : Subscription → Bool) (subs : SubState) → IsSubs subs → IsSubs (staying stays subs)
staying_is stays subs is = record {
  few = λ f. let before = is.few f in omega (arith, before, count_filter (is_of f) stays subs.subscriptions);
  ascend = ascend_filter stays subs.subscriptions is.ascend;
  given = all_filter (was_given subs.next_ids) stays subs.subscriptions is.given;
  indexed = is.indexed;
}

-- Where there is none, nothing changes.

pub not_changed : (fabric id : ℕ) (change : Kept → Kept) (subs : SubState) → is_used fabric id subs ≡ false → subs ≡ changed fabric id change subs
not_changed fabric id change subs none = ap (λ (ss : List Subscription). record subs { subscriptions = ss }) (sym (none_changes (is_named fabric id) (λ (s : Subscription). record s { kept = change s.kept }) subs.subscriptions none))

pub not_ended : (fabric id : ℕ) (subs : SubState) → is_used fabric id subs ≡ false → subs ≡ ended fabric id subs
not_ended fabric id subs none = ap (λ (ss : List Subscription). record subs { subscriptions = ss }) (sym (all_stay (is_named fabric id) subs.subscriptions none))
