-- What a deed comes to. A deed names a session and no state, so a book can keep it; what it does is told by the state in which it is done.
use Rattle.std.specs.Prelude.{◌≡◌, ◌<◌, ℕ, ⊤, nat_le, Bool, List, Option, Some, None, Ok, filter, map}
use Rattle.std.specs.Option.{option_and_then}
use Rattle.mt_exchange.specs.Resending.{end_times, ended_by}
use Rattle.mt_exchange.specs.declared.exchange.Exchange.{Exchange}
use Rattle.mt_exchange.specs.declared.lists.EndTime.{EndTime}
use Rattle.mt_im.specs.Limits.{IsWithinLimits}
use Rattle.mt_model.specs.declared.messages.message.Reply.{Reply}
use Rattle.mt_model.specs.declared.messages.message.Reply.TheVariants as replies
use Rattle.mt_model.specs.declared.node.action.Action.TheVariants as actions
use Rattle.mt_model.specs.declared.node.state.NodeState.{NodeState}
use Rattle.mt_subs.specs.Subscriptions.{kept_at}
use Rattle.mt_subs.specs.declared.subscription.Kept.{Kept}
use Rattle.mt_node.specs.mt_machine.Environment.{Environment}
use Rattle.mt_node.specs.mt_machine.Step.{closed_between}
use Rattle.mt_runs.specs.mt_ledger.Behind.{Activity, acts, confirms, ends, reports, state_done}
use Rattle.mt_runs.specs.mt_ledger.History.{History}
use Rattle.mt_runs.specs.mt_ledger.Ledger.{Ledger}
use Rattle.mt_runs.specs.mt_ledger.Reporting.{Due, due_now, due_report}
use Rattle.mt_runs.specs.mt_ledger.Subscribing.{confirm_reply}
use Rattle.mt_runs.specs.Datagrams.{actor_on, reply_over}
use Rattle.mt_runs.specs.Whole.{fabric_live}
use Rattle.mt_interactions.specs.declared.deeds.Deed.{Deed}
use Rattle.mt_interactions.specs.declared.deeds.Deed.TheVariants.{Ask, Confirm, Ends, Report, Expire, Nothing}

-- a request is within the limits
abbrev pub IsWithin : Deed → Type 0
IsWithin (Ask session request timed) = IsWithinLimits request
IsWithin deed = ⊤

-- Of whom it is.

-- The fabric for which its session is live as it begins, None where that is not live; a report names its fabric, and an expiry is of none.
abbrev pub fabric_at : NodeState → Deed → Option ℕ
fabric_at s (Ask session request timed) = fabric_live s session
fabric_at s (Confirm session subscription) = fabric_live s session
fabric_at s (Ends session at) = fabric_live s session
fabric_at s (Report fabric subscription) = Some fabric
fabric_at s Expire = None
fabric_at s (Nothing session) = fabric_live s session

-- The session that it names, or over which the subscription stands that it reports to.
abbrev pub session_at : Ledger → Deed → Option ℕ
session_at l (Ask session request timed) = Some session
session_at l (Confirm session subscription) = Some session
session_at l (Ends session at) = Some session
session_at l (Report fabric subscription) = option_and_then (λ (kept : Kept). kept.sub.actor.session) (kept_at fabric subscription l.subs)
session_at l Expire = None
session_at l (Nothing session) = Some session

-- Which subscriptions end by now: those whose time has come.

abbrev pub has_come : ℕ → EndTime → Bool
has_come ms end = nat_le end.ms ms

abbrev pub ended_at : ℕ → List EndTime → List ℕ
ended_at ms at = map (λ (end : EndTime). end.subscription) (filter (has_come ms) at)

-- They are those that a resend step ends now, at every time before the last that can be told.
abbrev pub EndsAreByTime : Type 0
EndsAreByTime = (ms : ℕ) (open_ones : List Exchange) → ms < 18446744073709551615 → ended_by ms open_ones ≡ ended_at ms (end_times open_ones)

-- WHAT IT DOES. Nothing is done over a session that is not live.

abbrev pub done_for : Option ℕ → (ℕ → Activity) → Activity
done_for None does = acts actions.Nothing
done_for (Some fabric) does = does fabric

abbrev pub activity_at : NodeState → Deed → ℕ → Activity
activity_at s (Ask session request timed) ms = done_for (fabric_live s session) (λ fabric. acts (actions.Ask (actor_on session) request timed))
activity_at s (Confirm session subscription) ms = done_for (fabric_live s session) (λ fabric. confirms fabric subscription)
activity_at s (Ends session at) ms = done_for (fabric_live s session) (λ fabric. ends fabric (ended_at ms at))
activity_at s (Report fabric subscription) ms = reports fabric subscription
activity_at s Expire ms = acts actions.Expire
activity_at s (Nothing session) ms = acts actions.Nothing

-- the sessions that end with it
abbrev pub closed_with : Environment → NodeState → Deed → ℕ → List ℕ
closed_with given s deed ms = closed_between s.sessions (state_done given s (activity_at s deed ms) ms).sessions

-- WHAT IS REPLIED, before it is cut into payloads and these are dated.

-- to a confirmation over a session that is live
abbrev pub confirmed_for : Ledger → ℕ → Option ℕ → Reply
confirmed_for l subscription None = replies.Nothing
confirmed_for l subscription (Some fabric) = confirm_reply subscription (kept_at fabric subscription l.subs)

-- in a report step
abbrev pub reply_due : NodeState → History → ℕ → ℕ → Option Due → Reply
reply_due s h fabric id None = replies.Nothing
reply_due s h fabric id (Some due) = due_report s h fabric id due

abbrev pub replied : Environment → NodeState → Ledger → Deed → ℕ → Reply
replied given s l (Ask session request timed) ms = reply_over given s l session timed ms (Ok request)
replied given s l (Confirm session subscription) ms = confirmed_for l subscription (fabric_live s session)
replied given s l (Ends session at) ms = replies.Nothing
replied given s l (Report fabric subscription) ms = reply_due s l.history fabric subscription (due_now s l ms fabric subscription)
replied given s l Expire ms = replies.Nothing
replied given s l (Nothing session) ms = replies.Nothing

-- Nothing is replied to what is of no fabric: over a session that is not live, and to what is of no session.
abbrev pub NobodyIsReplied : Type 0
NobodyIsReplied = (given : Environment) (s : NodeState) (l : Ledger) (deed : Deed) (ms : ℕ) → fabric_at s deed ≡ None → replied given s l deed ms ≡ replies.Nothing
