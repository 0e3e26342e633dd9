-- Which of a list of subscriptions are told over a session: those of a fabric and an id.
use Rattle.std.proofs.Common.{◌≡◌, ℕ, ◌<◌, ◌==◌, ◌++◌, inl, inr, nat_lt, not, if◌then◌else◌, Bool, true, false, List, [], ◌∷◌, Option, Some, filter, map, refl, sym, ap, ◌∙◌, subst, arith, eqb-true}
use Rattle.std.specs.List.{AllByRecursion, find, list_all, list_any}
use Rattle.std.specs.Option.{option_map}
use Rattle.std.proofs.lemmas.Bool.{and_parts, both_ways, cases_Bool, cond_both, eqb-false, ltb-true, not-true, or_cases, or_parts}
use Rattle.mt_subs.specs.Subscriptions.{changed_at, ids_ascend, is_named, may_come_after}
use Rattle.mt_subs.specs.declared.subscription.Kept.{Kept}
use Rattle.mt_subs.specs.declared.subscription.Subscription.{Subscription}

-- a change that leaves the session
abbrev pub KeepsSession : (Kept → Kept) → Type 0
KeepsSession change = (kept : Kept) → (change kept).sub.actor.session ≡ kept.sub.actor.session

-- Where it is the one of this fabric and id, it is told over this session.
abbrev pub IsFor : ℕ → ℕ → ℕ → Subscription → Type 0
IsFor fabric id session x = is_named fabric id x ≡ true → x.kept.sub.actor.session ≡ Some session

abbrev pub AreFor : ℕ → ℕ → ℕ → List Subscription → Type 0
AreFor fabric id session xs = AllByRecursion (IsFor fabric id session) xs

-- the first of this fabric and id in a list
abbrev pub kept_in : ℕ → ℕ → List Subscription → Option Kept
kept_in fabric id xs = option_map (λ (x : Subscription). x.kept) (find (is_named fabric id) xs)

abbrev kept_if : ℕ → ℕ → Subscription → List Subscription → Bool → Option Kept
kept_if fabric id x xs its = option_map (λ (y : Subscription). y.kept) (if its then Some x else find (is_named fabric id) xs)

pub names : (fabric id : ℕ) (x : Subscription) → is_named fabric id x ≡ true → (x.fabric ≡ fabric) × (x.id ≡ id)
names fabric id x its =
    let both = and_parts (x.fabric == fabric) (x.id == id) its in
    (eqb-true x.fabric fabric both.0, eqb-true x.id id both.1)

some_same : {A : Type 0} (a b : A) → Some a ≡ Some b → a ≡ b
some_same a b is = cc

module _ (fabric id session : ℕ) where
  -- What is done with a list.

  pub stay_for : (stays : Subscription → Bool) (xs : List Subscription) → AreFor fabric id session xs → AreFor fabric id session (filter stays xs)
  stay_for stays [] all = tt
  stay_for stays (x ∷ xs) all =
      cond_both (stays x) (x ∷ filter stays xs) (filter stays xs) (AreFor fabric id session) (λ stay. (all.0, stay_for stays xs all.1)) (λ goes. stay_for stays xs all.1)

  pub changed_for : (other n : ℕ) (change : Kept → Kept) → KeepsSession change → (xs : List Subscription) → AreFor fabric id session xs → AreFor fabric id session (map (changed_at other n change) xs)
  changed_for other n change keeps [] all = tt
  changed_for other n change keeps (x ∷ xs) all = (
    cond_both (is_named other n x) (record x { kept = change x.kept }) x (IsFor fabric id session) (λ its named. keeps x.kept ∙ all.0 named) (λ another. all.0),
    changed_for other n change keeps xs all.1,
  )

  pub more_for : (x : Subscription) (xs : List Subscription) → IsFor fabric id session x → AreFor fabric id session xs → AreFor fabric id session (xs ++ x ∷ [])
  more_for x [] its all = (its, tt)
  more_for x (y ∷ xs) its all = (all.0, more_for x xs its all.1)

  pub unused_for : (xs : List Subscription) → list_any (is_named fabric id) xs ≡ false → AreFor fabric id session xs
  unused_for [] none = tt
  unused_for (x ∷ xs) none =
      let both = or_parts (is_named fabric id x) (list_any (is_named fabric id) xs) none in
      (λ named. absurd (both_ways _ both.0 named), unused_for xs both.1)

  -- The one that is found is among them.
  pub found_for : (kept : Kept) (xs : List Subscription) → AreFor fabric id session xs → kept_in fabric id xs ≡ Some kept → kept.sub.actor.session ≡ Some session
  found_for kept [] all found = absurd (cc)
  found_for kept (x ∷ xs) all found = elim (cases_Bool (is_named fabric id x)) [
    | inl its ↦ ap (λ (k : Kept). k.sub.actor.session) (sym (some_same x.kept kept (subst (λ (b : Bool). kept_if fabric id x xs b ≡ Some kept) its found))) ∙ all.0 its
    | inr other ↦ found_for kept xs all.1 (subst (λ (b : Bool). kept_if fabric id x xs b ≡ Some kept) other found)
  ]

  -- And where ids ascend, there is no other.

  not_twice : (x y : Subscription) → is_named fabric id x ≡ true → is_named fabric id y ≡ true → may_come_after x y ≡ true → ⊥
  not_twice x y first second after =
      let one = names fabric id x first in
      let two = names fabric id y second in
      let same : x.id ≡ y.id = one.1 ∙ sym two.1 in
      elim (or_cases (not (x.fabric == y.fabric)) (nat_lt x.id y.id) after) [
        | inl apart ↦ eqb-false x.fabric y.fabric (not-true (x.fabric == y.fabric) apart) (one.0 ∙ sym two.0)
        | inr below ↦ let low : x.id < y.id = ltb-true x.id y.id below in omega arith
      ]

  none_behind : (x : Subscription) (xs : List Subscription) → is_named fabric id x ≡ true → list_all (may_come_after x) xs ≡ true → AreFor fabric id session xs
  none_behind x [] its after = tt
  none_behind x (y ∷ xs) its after =
      let both = and_parts (may_come_after x y) (list_all (may_come_after x) xs) after in
      (λ named. absurd (not_twice x y its named both.0), none_behind x xs its both.1)

  pub all_for : (xs : List Subscription) → ids_ascend xs ≡ true → ((kept : Kept) → kept_in fabric id xs ≡ Some kept → kept.sub.actor.session ≡ Some session) → AreFor fabric id session xs
  all_for [] up over = tt
  all_for (x ∷ xs) up over =
      let both = and_parts (list_all (may_come_after x) xs) (ids_ascend xs) up in
      elim (cases_Bool (is_named fabric id x)) [
        | inl its ↦ (λ named. over x.kept (rw its refl), none_behind x xs its both.0)
        | inr other ↦ (λ named. absurd (both_ways _ other named), all_for xs both.1 (λ kept found. over kept (rw other found)))
      ]
