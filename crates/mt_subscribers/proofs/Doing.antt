-- A subscription that is told over a session is told over it still, whatever is done.
use Rattle.std.proofs.Common.{◌≡◌, ℕ, ◌<◌, ◌-◌, is_some, if◌then◌else◌, Bool, true, false, Option, Some, None, refl}
use Rattle.std.proofs.lemmas.Bool.{cond_both}
use Rattle.mt_model.specs.declared.messages.message.Request.{Request}
use Rattle.mt_model.specs.declared.messages.message.Request.TheVariants as requests
use Rattle.mt_model.specs.declared.node.action.Action.TheVariants.{Ask, Expire, Nothing}
use Rattle.mt_model.specs.declared.node.state.NodeState.{NodeState}
use Rattle.mt_model.specs.declared.tables.access.Actor.{Actor}
use Rattle.mt_subs.specs.Leaving.{is_by_another, is_none_of, without_node}
use Rattle.mt_subs.specs.Subscriptions.{IsSubs, added, confirmed, next_id, reported}
use Rattle.mt_subs.specs.declared.subscription.Kept.{Kept}
use Rattle.mt_subs.specs.declared.subscription.SubState.{SubState}
use Rattle.mt_shared.specs.mt_machine.Step.{asker, is_late}
use Rattle.mt_shared.specs.mt_ledger.Behind.{Activity, acts, confirms, ends, reports, subs_done}
use Rattle.mt_shared.specs.mt_ledger.Ledger.{Ledger}
use Rattle.mt_shared.specs.mt_ledger.Reporting.{Due, behind_report, due_events, due_now, told_now}
use Rattle.mt_shared.specs.mt_ledger.Subscribing.{Wish, at_once, behind_wish, behind_wish_if_any, first_events, first_told, has_no_room, is_malformed, last_told, left_by, subscribed, wish_asked, wish_in_time, wish_of}
use Rattle.mt_subscribers.proofs.Keeping.{AreOver, NextRises, OthersNextStays, StayingAre, added_over, changed_over, staying_over}
use Rattle.mt_subscribers.proofs.Lists.{KeepsSession}

-- A wish is of whoever asks: what holds of no wish and of every one of that actor's, holds of what it asks in time.

module _ (asking : Actor) (P : Option Wish → Type 0) (none : P None) (one : (wish : Wish) → wish.sub.actor ≡ asking → P (Some wish)) where
  of_request : (request : Request) → P (wish_of asking request)
  of_request (requests.Status code) = none
  of_request (requests.Read paths wanted minimum filtered versions) = none
  of_request (requests.Subscribe keep floor ceiling paths wanted minimum filtered versions) = one _ refl
  of_request (requests.Write suppress timed items) = none
  of_request (requests.Invoke suppress timed command fields) = none
  of_request (requests.Timed ms) = none

  pub in_time : (deadline : Option ℕ) (now : ℕ) (request : Request) → P (wish_in_time asking deadline now request)
  in_time deadline now request = elim (is_late deadline now) as (λ (late : Bool). P (if late then None else wish_of asking request)) [ true ↦ none | false ↦ of_request request ]

-- What is done with a subscription leaves its session.

confirmed_keeps : KeepsSession confirmed
confirmed_keeps kept = refl

pub told_keeps : (actor : Actor) (now change event : ℕ) → KeepsSession (λ (kept : Kept). at_once actor (reported now change event kept))
told_keeps actor now change event kept =
    cond_both (is_some actor.session) (reported now change event kept) (confirmed (reported now change event kept)) (λ (after : Kept). after.sub.actor.session ≡ kept.sub.actor.session) (λ still. refl) (λ once. refl)

pub left_is : StayingAre → (wish : Wish) (subs : SubState) → IsSubs subs → IsSubs (left_by wish subs)
left_is staying_are wish subs is =
    cond_both wish.keeps subs (without_node wish.sub.actor.fabric wish.sub.actor.node subs) IsSubs (λ keep. is) (λ goes. staying_are (is_by_another wish.sub.actor.fabric wish.sub.actor.node) subs is)

pub next_left : (fabric : ℕ) (wish : Wish) (subs : SubState) → next_id fabric (left_by wish subs) ≡ next_id fabric subs
next_left fabric wish subs = cond_both wish.keeps subs (without_node wish.sub.actor.fabric wish.sub.actor.node subs) (λ (left : SubState). next_id fabric left ≡ next_id fabric subs) (λ keep. refl) (λ goes. refl)

-- Whatever is done.

module _ (staying_are : StayingAre) (rises : NextRises) (others : OthersNextStays) (fabric id session : ℕ) (s : NodeState) (l : Ledger) (now : ℕ) (is : IsSubs l.subs) (over : AreOver fabric id session l.subs) (low : fabric < 256) where
  left_over : (wish : Wish) → AreOver fabric id session (left_by wish l.subs)
  left_over wish =
      cond_both wish.keeps l.subs (without_node wish.sub.actor.fabric wish.sub.actor.node l.subs) (AreOver fabric id session)
      (λ keep. over) (λ goes. staying_over fabric id session (is_by_another wish.sub.actor.fabric wish.sub.actor.node) l.subs over)

  subscribed_over : (wish : Wish) → AreOver fabric id session (subscribed s l now wish)
  subscribed_over wish =
      let left = left_by wish l.subs in
      changed_over fabric id session wish.sub.actor.fabric (next_id wish.sub.actor.fabric l.subs) (first_told s l.history now wish)
      (told_keeps wish.sub.actor now s.changed (last_told (wish.minimum - 1) (first_events s l.history wish)))
      (added wish.sub.actor.fabric wish.sub left)
      (added_over fabric id session rises others wish.sub.actor.fabric wish.sub left low (left_is staying_are wish l.subs is) (left_over wish))

  wish_over : (wish : Wish) → AreOver fabric id session (behind_wish s l now wish)
  wish_over wish =
      cond_both (is_malformed wish.sub) l.subs (if has_no_room wish l.subs then left_by wish l.subs else subscribed s l now wish) (AreOver fabric id session)
      (λ malformed. over)
      (λ well. cond_both (has_no_room wish l.subs) (left_by wish l.subs) (subscribed s l now wish) (AreOver fabric id session) (λ full. left_over wish) (λ room. subscribed_over wish))

  report_over : (other n : ℕ) (due : Option Due) → AreOver fabric id session (behind_report s l now other n due)
  report_over other n None = over
  report_over other n (Some due) =
      changed_over fabric id session other n (told_now s l.history now other due)
      (told_keeps due.kept.sub.actor now s.changed (last_told due.kept.event (due_events s l.history other due.kept))) l.subs over

  asked_over : (request : Request) (deadline : Option ℕ) (whom : Option Actor) → AreOver fabric id session (behind_wish_if_any s l now (wish_asked whom deadline now request))
  asked_over request deadline None = over
  asked_over request deadline (Some asking) =
      in_time asking (λ (wish : Option Wish). AreOver fabric id session (behind_wish_if_any s l now wish)) over (λ wish its. wish_over wish) deadline now request

  pub done_over : (activity : Activity) → AreOver fabric id session (subs_done s l now activity)
  done_over (acts (Ask actor request deadline)) = asked_over request deadline (asker s actor)
  done_over (acts Expire) = over
  done_over (acts Nothing) = over
  done_over (confirms other n) = changed_over fabric id session other n confirmed confirmed_keeps l.subs over
  done_over (ends other ids) = staying_over fabric id session (is_none_of other ids) l.subs over
  done_over (reports other n) = report_over other n (due_now s l now other n)
