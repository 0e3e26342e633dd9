-- A subscription that is told over a session is told over it still, behind each call that is made of the subscriptions of a node.
use Rattle.std.proofs.Common.{◌≡◌, ℕ, ◌<◌, ◌≤◌, ◌==◌, inl, inr, Bool, true, false, Some, sym, ap, subst, arith, eqb-true}
use Rattle.std.proofs.lemmas.Bool.{cases_Bool, eqb-false, lt-ltb, ltb-true}
use Rattle.mt_subs.specs.Leaving.{staying}
use Rattle.mt_subs.specs.Subscriptions.{IsSubs, added, begun, changed, is_named, is_used, next_id}
use Rattle.mt_subs.specs.declared.subscription.Kept.{Kept}
use Rattle.mt_subs.specs.declared.subscription.Sub.{Sub}
use Rattle.mt_subs.specs.declared.subscription.SubState.{SubState}
use Rattle.mt_subs.specs.declared.subscription.Subscription.{Subscription}
use Rattle.mt_subscribers.specs.Over.{IsOver}
use Rattle.mt_subscribers.proofs.Lists.{AreFor, KeepsSession, all_for, changed_for, found_for, more_for, names, stay_for, unused_for}

-- Laws of subscriptions.

abbrev pub StayingAre : Type 0
StayingAre = (stays : Subscription → Bool) (subs : SubState) → IsSubs subs → IsSubs (staying stays subs)

abbrev pub NextRises : Type 0
NextRises = (fabric : ℕ) (sub : Sub) (subs : SubState) → fabric < 256 → IsSubs subs → next_id fabric subs < next_id fabric (added fabric sub subs)

abbrev pub OthersNextStays : Type 0
OthersNextStays = (fabric other : ℕ) (sub : Sub) (subs : SubState) → (fabric ≡ other → ⊥) → next_id other (added fabric sub subs) ≡ next_id other subs

abbrev pub NextIsUnused : Type 0
NextIsUnused = (fabric id : ℕ) (subs : SubState) → IsSubs subs → next_id fabric subs ≤ id → is_used fabric id subs ≡ false

-- Its id was given, and each subscription of that fabric and id is told over the session.
pub record AreOver (fabric id session : ℕ) (subs : SubState) : Type 0 where
  pub given : id < next_id fabric subs
  pub all : AreFor fabric id session subs.subscriptions

-- the subscription that is added
abbrev new : ℕ → Sub → SubState → Subscription
new fabric sub subs = record { fabric = fabric; id = next_id fabric subs; kept = begun sub }

module _ (fabric id session : ℕ) where
  pub are_over : (subs : SubState) → IsSubs subs → IsOver fabric id session subs → AreOver fabric id session subs
  are_over subs is over = record { given = ltb-true id (next_id fabric subs) over.given; all = all_for fabric id session subs.subscriptions is.ascend over.over }

  pub is_over : (subs : SubState) → AreOver fabric id session subs → IsOver fabric id session subs
  is_over subs are = record { given = lt-ltb id (next_id fabric subs) are.given; over = λ kept found. found_for fabric id session kept subs.subscriptions are.all found }

  pub staying_over : (stays : Subscription → Bool) (subs : SubState) → AreOver fabric id session subs → AreOver fabric id session (staying stays subs)
  staying_over stays subs are = record { given = are.given; all = stay_for fabric id session stays subs.subscriptions are.all }

  pub changed_over : (other n : ℕ) (change : Kept → Kept) → KeepsSession change → (subs : SubState) → AreOver fabric id session subs → AreOver fabric id session (changed other n change subs)
  changed_over other n change keeps subs are = record { given = are.given; all = changed_for fabric id session other n change keeps subs.subscriptions are.all }

  -- One more is another, since it has an id that was not given.

  next_not_lower : NextRises → OthersNextStays → (other : ℕ) (sub : Sub) (subs : SubState) → fabric < 256 → IsSubs subs → next_id fabric subs ≤ next_id fabric (added other sub subs)
  next_not_lower rises others other sub subs low is = elim (cases_Bool (other == fabric)) [
    | inl its ↦
        let same = eqb-true other fabric its in
        let higher : next_id other subs < next_id other (added other sub subs) = rises other sub subs (subst (λ (f : ℕ). f < 256) (sym same) low) is in
        let before : next_id other subs ≡ next_id fabric subs = ap (λ (f : ℕ). next_id f subs) same in
        let behind : next_id other (added other sub subs) ≡ next_id fabric (added other sub subs) = ap (λ (f : ℕ). next_id f (added other sub subs)) same in
        omega (arith, higher, before, behind)
    | inr apart ↦
        let same : next_id fabric (added other sub subs) ≡ next_id fabric subs = others other fabric sub subs (eqb-false other fabric apart) in
        omega (arith, same)
  ]

  not_new : (other : ℕ) (sub : Sub) (subs : SubState) → id < next_id fabric subs → is_named fabric id (new other sub subs) ≡ true → ⊥
  not_new other sub subs given named =
      let its = names fabric id (new other sub subs) named in
      let next : next_id other subs ≡ id = its.1 in
      let same : next_id other subs ≡ next_id fabric subs = ap (λ (f : ℕ). next_id f subs) its.0 in
      omega (arith, next, same, given)

  pub added_over : NextRises → OthersNextStays → (other : ℕ) (sub : Sub) (subs : SubState) → fabric < 256 → IsSubs subs → AreOver fabric id session subs → AreOver fabric id session (added other sub subs)
  added_over rises others other sub subs low is are = record {
    given = let given = are.given in omega (arith, given, next_not_lower rises others other sub subs low is);
    all = more_for fabric id session (new other sub subs) subs.subscriptions (λ named. absurd (not_new other sub subs are.given named)) are.all;
  }

-- One that is added by an actor of a session is told over that session.
pub gained_over : NextRises → NextIsUnused → (fabric session : ℕ) (sub : Sub) (subs : SubState) → fabric < 256 → IsSubs subs → sub.actor.session ≡ Some session
    → AreOver fabric (next_id fabric subs) session (added fabric sub subs)
gained_over rises unused fabric session sub subs low is its = record {
  given = rises fabric sub subs low is;
  all = more_for fabric (next_id fabric subs) session (new fabric sub subs) subs.subscriptions (λ named. its)
      (unused_for fabric (next_id fabric subs) session subs.subscriptions (unused fabric (next_id fabric subs) subs is (omega arith)));
}
