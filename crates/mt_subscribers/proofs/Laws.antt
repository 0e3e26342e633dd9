-- The laws: subscriptions stay over their session, and are gained over that of their request.
use Rattle.std.proofs.Common.{◌≡◌, ℕ, ◌<◌, if◌then◌else◌, Bool, true, false, Option, Some, None, refl, sym, ap, subst, ◌∙◌}
use Rattle.mt_shared.specs.mt_interactions.Configured.{ConfiguredInteractions}
use Rattle.mt_shared.specs.mt_interactions.Deeds.{activity_at, confirmed_for, done_for, replied}
use Rattle.mt_shared.specs.mt_interactions.Deed.{Deed}
use Rattle.mt_shared.specs.mt_interactions.TheVariants.{Ask, Confirm, Ends, Report, Expire, Nothing}
use Rattle.mt_shared.specs.mt_ledger.Behind.{Activity, acts, state_done, subs_done}
use Rattle.mt_shared.specs.mt_ledger.Ledger.{IsLedger, Ledger}
use Rattle.mt_shared.specs.mt_ledger.Subscribing.{confirm_reply}
use Rattle.mt_shared.specs.mt_machine.Environment.{Environment}
use Rattle.mt_model.specs.declared.messages.message.Reply.TheVariants as replies
use Rattle.mt_model.specs.declared.messages.message.Request.{Request}
use Rattle.mt_model.specs.declared.node.action.Action.TheVariants as actions
use Rattle.mt_model.specs.declared.node.state.NodeState.{NodeState}
use Rattle.mt_shared.specs.mt_runs.Datagrams.{actor_on}
use Rattle.mt_shared.specs.mt_runs.Whole.{fabric_live}
use Rattle.mt_shared.specs.Replay.{answer_to, given_in}
use Rattle.mt_subs.specs.Leaving.{left_in, stands_in}
use Rattle.mt_subs.specs.Subscriptions.{kept_at}
use Rattle.mt_subs.specs.declared.subscription.Kept.{Kept}
use Rattle.mt_subs.specs.declared.subscription.SubState.{SubState}
use Rattle.mt_subscribers.specs.Laws.{SubscriptionsAreGained, SubscriptionsStay}
use Rattle.mt_subscribers.specs.Over.{IsDoneOver, IsOver}
use Rattle.mt_subscribers.proofs.Commands.{subscription_of}
use Rattle.mt_subscribers.proofs.Doing.{done_over}
use Rattle.mt_subscribers.proofs.Gaining.{request_gains}
use Rattle.mt_subscribers.proofs.Keeping.{AreOver, NextIsUnused, NextRises, OthersNextStays, StayingAre, are_over, is_over, staying_over}

-- whoever is left is told over the same session
left_over : (fabric id session : ℕ) (s : NodeState) (subs : SubState) → AreOver fabric id session subs → IsOver fabric id session (left_in s subs)
left_over fabric id session s subs over = is_over fabric id session (left_in s subs) (staying_over fabric id session (stands_in s) subs over)

pub stay : StayingAre → NextRises → OthersNextStays → SubscriptionsStay
stay staying_are rises others node deed ms fabric id session valid is low over =
    let s = node.state.node in
    let activity = activity_at s deed ms in
    left_over fabric id session (state_done (given_in node) s activity ms) (subs_done s node.ledger ms activity)
    (done_over staying_are rises others fabric id session s node.ledger ms is.subs (are_over fabric id session node.ledger.subs is.subs over) low activity)

-- A confirmation is not replied with a report.

confirming_tells : (id : ℕ) (found : Option Kept) → subscription_of (confirm_reply id found) ≡ None
confirming_tells id None = refl
confirming_tells id (Some kept) = primed_tells kept.primed
  where
    primed_tells : (primed : Bool) → subscription_of (if primed then replies.Nothing else replies.Subscribed id kept.sub.ceiling) ≡ None
    primed_tells true = refl
    primed_tells false = refl

confirmed_tells : (l : Ledger) (id : ℕ) (fabric : Option ℕ) → subscription_of (confirmed_for l id fabric) ≡ None
confirmed_tells l id None = refl
confirmed_tells l id (Some fabric) = confirming_tells id (kept_at fabric id l.subs)

module _ (staying_are : StayingAre) (rises : NextRises) (unused : NextIsUnused) (node : ConfiguredInteractions) (ms fabric id session : ℕ) (is : IsLedger node.state.node node.ledger) (low : fabric < 256) where
  abbrev s : NodeState
  s = node.state.node

  abbrev given : Environment
  given = given_in node

  -- the subscriptions behind it are over the session
  abbrev Over : Activity → Type 0
  Over activity = IsOver fabric id session (left_in (state_done given s activity ms) (subs_done s node.ledger ms activity))

  asking_gains : (request : Request) (timed : Option ℕ) → fabric_live s session ≡ Some fabric → subscription_of (replied given s node.ledger (Ask session request timed) ms) ≡ Some id → Over (activity_at s (Ask session request timed) ms)
  asking_gains request timed live tells =
      let activity = acts (actions.Ask (actor_on session) request timed) in
      subst (λ (f : Option ℕ). Over (done_for f (λ (of : ℕ). activity))) (sym live)
      (left_over fabric id session (state_done given s activity ms) (subs_done s node.ledger ms activity) (request_gains staying_are rises unused s node.ledger ms is.subs fabric id session given request timed live low tells))

  impossible : {A : Type 0} → None ≡ Some id → A
  impossible e = absurd (cc)

  deed_gains : (deed : Deed) → IsDoneOver session deed → (answer_to node deed ms).fabric ≡ Some fabric → subscription_of (answer_to node deed ms).reply ≡ Some id → Over (activity_at s deed ms)
  deed_gains (Ask n request timed) over live tells =
      let same : session ≡ n = sym over in
      subst (λ (m : ℕ). fabric_live s m ≡ Some fabric → subscription_of (replied given s node.ledger (Ask m request timed) ms) ≡ Some id → Over (activity_at s (Ask m request timed) ms)) same
      (asking_gains request timed) live tells
  deed_gains (Confirm n subscription) over live tells = impossible (sym (confirmed_tells node.ledger subscription (fabric_live s n)) ∙ tells)
  deed_gains (Ends n at) over live tells = impossible tells
  deed_gains (Report of subscription) over live tells = absurd over
  deed_gains Expire over live tells = absurd over
  deed_gains (Nothing n) over live tells = impossible tells

pub gain : StayingAre → NextRises → NextIsUnused → SubscriptionsAreGained
gain staying_are rises unused node deed ms fabric id session items suppress valid is low over live tells =
    deed_gains staying_are rises unused node ms fabric id session is low deed over live (ap subscription_of tells)
