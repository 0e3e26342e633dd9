-- A subscription that an answer over a session tells is a new one, by an actor of that session.
use Rattle.std.proofs.Common.{◌≡◌, ℕ, ◌<◌, ◌-◌, ◌==◌, if◌then◌else◌, Bool, true, false, List, [], ◌∷◌, Option, Some, None, Ok, refl, sym, ap, subst, ◌∙◌, inl, inr, eqb-true}
use Rattle.std.specs.List.{find}
use Rattle.std.specs.Option.{option_and_then, option_map}
use Rattle.std.proofs.lemmas.Bool.{cases_Bool}
use Rattle.mt_model.specs.messages.Status.{code_of}
use Rattle.mt_model.specs.declared.messages.message.Reply.{Reply}
use Rattle.mt_model.specs.declared.messages.message.Reply.TheVariants as replies
use Rattle.mt_model.specs.declared.messages.message.Request.{Request}
use Rattle.mt_model.specs.declared.messages.status.Status.TheVariants.{InvalidAction, ResourceExhausted}
use Rattle.mt_model.specs.declared.node.action.Action.TheVariants as actions
use Rattle.mt_model.specs.declared.node.state.NodeSession.{NodeSession}
use Rattle.mt_model.specs.declared.node.state.NodeState.{NodeState}
use Rattle.mt_model.specs.declared.node.state.Standing.{Standing}
use Rattle.mt_model.specs.declared.node.state.Standing.TheVariants.{Waits, Live, Ended}
use Rattle.mt_model.specs.declared.tables.access.Actor.{Actor}
use Rattle.mt_subs.specs.Subscriptions.{IsSubs, added, next_id}
use Rattle.mt_subs.specs.declared.subscription.SubState.{SubState}
use Rattle.mt_shared.specs.mt_machine.Environment.{Environment}
use Rattle.mt_shared.specs.mt_machine.Step.{asked_reply, live_actor, refusal, session_actor}
use Rattle.mt_shared.specs.mt_ledger.HistoryAsking.{events_for, with_events}
use Rattle.mt_shared.specs.mt_ledger.Asking.{with_wish}
use Rattle.mt_shared.specs.mt_ledger.Behind.{acts, subs_done}
use Rattle.mt_shared.specs.mt_ledger.Ledger.{Ledger}
use Rattle.mt_shared.specs.mt_ledger.Subscribing.{Wish, behind_wish, behind_wish_if_any, first_events, first_items, first_told, has_no_room, is_malformed, last_told, left_by, subscribed, wish_asked, wish_in_time, wish_reply}
use Rattle.mt_shared.specs.mt_runs.Datagrams.{actor_on, reply_over}
use Rattle.mt_subscribers.proofs.Commands.{subscription_of}
use Rattle.mt_subscribers.proofs.Doing.{in_time, left_is, next_left, told_keeps}
use Rattle.mt_subscribers.proofs.Keeping.{AreOver, NextIsUnused, NextRises, StayingAre, changed_over, gained_over}
use Rattle.mt_subscribers.proofs.Replies.{plainly_none}

-- Whoever asks over a session has it as the session.

of_standing : (session : NodeSession) (standing : Standing) (asking : Actor) → live_actor session standing ≡ Some asking → asking.session ≡ Some session.session
of_standing session Waits asking is = absurd (cc)
of_standing session (Live fabric) asking is = ap (λ (actor : Option Actor). option_and_then (λ (a : Actor). a.session) actor) (sym is)
of_standing session Ended asking is = absurd (cc)

abbrev found_actor : Option NodeSession → Option Actor
found_actor found = option_and_then (λ (session : NodeSession). live_actor session session.standing) found

of_found : (id : ℕ) (asking : Actor) (sessions : List NodeSession) → found_actor (find (λ (session : NodeSession). session.session == id) sessions) ≡ Some asking → asking.session ≡ Some id
of_found id asking [] is = absurd (cc)
of_found id asking (session ∷ sessions) is = elim (cases_Bool (session.session == id)) [
  | inl its ↦
      of_standing session session.standing asking
      (subst (λ (b : Bool). found_actor (if b then Some session else find (λ (x : NodeSession). x.session == id) sessions) ≡ Some asking) its is)
      ∙ ap (λ (n : ℕ). Some n) (eqb-true session.session id its)
  | inr other ↦ of_found id asking sessions (subst (λ (b : Bool). found_actor (if b then Some session else find (λ (x : NodeSession). x.session == id) sessions) ≡ Some asking) other is)
]

session_is : (s : NodeState) (id : ℕ) (asking : Actor) → session_actor s id ≡ Some asking → asking.session ≡ Some id
session_is s id asking is = of_found id asking s.sessions is

-- A wish that is told its subscription has added it.

module _ (staying_are : StayingAre) (rises : NextRises) (unused : NextIsUnused) (s : NodeState) (l : Ledger) (now : ℕ) (is : IsSubs l.subs) where
  -- it is told over the session of its actor
  subscribed_gains : (wish : Wish) (session : ℕ) → wish.sub.actor.fabric < 256 → wish.sub.actor.session ≡ Some session
      → AreOver wish.sub.actor.fabric (next_id wish.sub.actor.fabric l.subs) session (subscribed s l now wish)
  subscribed_gains wish session low its =
      let fabric = wish.sub.actor.fabric in
      let left = left_by wish l.subs in
      let next = next_left fabric wish l.subs in
      changed_over fabric (next_id fabric l.subs) session fabric (next_id fabric l.subs) (first_told s l.history now wish)
      (told_keeps wish.sub.actor now s.changed (last_told (wish.minimum - 1) (first_events s l.history wish)))
      (added fabric wish.sub left)
      (subst (λ (n : ℕ). AreOver fabric n session (added fabric wish.sub left)) next (gained_over rises unused fabric session wish.sub left low (left_is staying_are wish l.subs is) its))

  module _ (fabric id session : ℕ) where
    abbrev Gains : Reply → SubState → Type 0
    Gains reply subs = subscription_of reply ≡ Some id → AreOver fabric id session subs

    either_gains : (test : Bool) (reply other : Reply) (subs rest : SubState) → Gains reply subs → Gains other rest → Gains (if test then reply else other) (if test then subs else rest)
    either_gains true reply other subs rest first second = first
    either_gains false reply other subs rest first second = second

    refused_gains : (code : ℕ) (subs : SubState) → Gains (refusal code) subs
    refused_gains code subs tells = absurd (cc)

    told_gains : (wish : Wish) → wish.sub.actor.fabric ≡ fabric → fabric < 256 → wish.sub.actor.session ≡ Some session → Some (next_id wish.sub.actor.fabric l.subs) ≡ Some id → AreOver fabric id session (subscribed s l now wish)
    told_gains wish whose low its tells =
        let next : next_id wish.sub.actor.fabric l.subs ≡ id = cc in
        subst (λ (f : ℕ). AreOver f id session (subscribed s l now wish)) whose
        (subst (λ (n : ℕ). AreOver wish.sub.actor.fabric n session (subscribed s l now wish)) next
        (subscribed_gains wish session (subst (λ (f : ℕ). f < 256) (sym whose) low) its))

    wish_gains : (wish : Wish) → wish.sub.actor.fabric ≡ fabric → fabric < 256 → wish.sub.actor.session ≡ Some session → Gains (wish_reply s l wish) (behind_wish s l now wish)
    wish_gains wish whose low its =
        let left = left_by wish l.subs in
        let report = replies.Report (Some (next_id wish.sub.actor.fabric l.subs)) (first_items s l.history wish) false in
        either_gains (is_malformed wish.sub) (refusal (code_of InvalidAction)) (if has_no_room wish l.subs then refusal (code_of ResourceExhausted) else report)
        l.subs (if has_no_room wish l.subs then left else subscribed s l now wish)
        (refused_gains (code_of InvalidAction) l.subs)
        (either_gains (has_no_room wish l.subs) (refusal (code_of ResourceExhausted)) report left (subscribed s l now wish)
        (refused_gains (code_of ResourceExhausted) left)
        (told_gains wish whose low its))

    -- What is asked over the session by its actor.
    asked_gains : (given : Environment) (asking : Actor) (request : Request) (deadline : Option ℕ) → asking.fabric ≡ fabric → fabric < 256 → asking.session ≡ Some session
        → Gains (with_wish s l (wish_in_time asking deadline now request) (with_events (events_for s l.history (Some asking) request) (asked_reply given s request deadline now (Some asking))))
        (behind_wish_if_any s l now (wish_in_time asking deadline now request))
    asked_gains given asking request deadline whose low its =
        let events = events_for s l.history (Some asking) request in
        let plainly = with_events events (asked_reply given s request deadline now (Some asking)) in
        in_time asking (λ (wish : Option Wish). Gains (with_wish s l wish plainly) (behind_wish_if_any s l now wish))
        (λ tells. absurd (not_some (sym (plainly_none given s request deadline now (Some asking) events) ∙ tells)))
        (λ wish theirs. wish_gains wish (ap (λ (a : Actor). a.fabric) theirs ∙ whose) low (ap (λ (a : Actor). a.session) theirs ∙ its))
        deadline now request
      where
        not_some : None ≡ Some id → ⊥
        not_some is_one = absurd (cc)

    -- and by whoever is taken as its actor
    whom_gains : (given : Environment) (request : Request) (deadline : Option ℕ) (whom : Option Actor) → session_actor s session ≡ whom → option_map (λ (actor : Actor). actor.fabric) whom ≡ Some fabric → fabric < 256
        → Gains (with_wish s l (wish_asked whom deadline now request) (with_events (events_for s l.history whom request) (asked_reply given s request deadline now whom)))
        (behind_wish_if_any s l now (wish_asked whom deadline now request))
    whom_gains given request deadline None is_whom whose low = absurd (cc)
    whom_gains given request deadline (Some asking) is_whom whose low =
        let same : asking.fabric ≡ fabric = cc in
        asked_gains given asking request deadline same low (session_is s session asking is_whom)

    pub request_gains : (given : Environment) (request : Request) (deadline : Option ℕ) → option_map (λ (actor : Actor). actor.fabric) (session_actor s session) ≡ Some fabric → fabric < 256
        → subscription_of (reply_over given s l session deadline now (Ok request)) ≡ Some id
        → AreOver fabric id session (subs_done s l now (acts (actions.Ask (actor_on session) request deadline)))
    request_gains given request deadline whose low tells = whom_gains given request deadline (session_actor s session) refl whose low tells
