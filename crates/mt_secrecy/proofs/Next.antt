-- The whole behind a line, and behind a loss of power, is the one that there is, masked.
use Rattle.std.proofs.Common.{◌≡◌, ℕ, List, [], Option, Some, None, Result, Ok, Err, refl, ap, ◌∙◌, map}
use Rattle.mt_im.specs.declared.fault.ImFault.{ImFault}
use Rattle.mt_model.specs.declared.messages.message.Reply.{Reply}
use Rattle.mt_model.specs.declared.messages.message.Request.{Request}
use Rattle.mt_model.specs.declared.node.action.Action.{Action}
use Rattle.mt_model.specs.declared.node.action.Action.TheVariants as actions
use Rattle.mt_model.specs.declared.node.state.NodeState.{NodeState}
use Rattle.mt_model.specs.declared.tables.access.Actor.{Actor}
use Rattle.mt_model.specs.declared.texts.config.SessionRow.{SessionRow}
use Rattle.mt_model.specs.declared.texts.recording.Event.TheVariants.{Report, Tick}
use Rattle.mt_subs.specs.Leaving.{left_in, stands_in}
use Rattle.mt_subs.specs.declared.subscription.SubState.{SubState}
use Rattle.mt_subs.specs.declared.subscription.Subscription.{Subscription}
use Rattle.mt_machine.specs.Environment.{Environment}
use Rattle.mt_machine.specs.Lines.{action_of, deadline_for, next_for}
use Rattle.mt_machine.specs.State.{State}
use Rattle.mt_machine.specs.Step.{asker, gone_between}
use Rattle.mt_ledger.specs.history.Behind.{history_behind}
use Rattle.mt_ledger.specs.history.History.{History, recorded_all, without_left}
use Rattle.mt_ledger.specs.Behind.{acts, ledger_behind, reports}
use Rattle.mt_ledger.specs.Ledger.{Ledger}
use Rattle.mt_ledger.specs.Reporting.{Due, behind_report, due_now}
use Rattle.mt_ledger.specs.Subscribing.{Wish, behind_wish_if_any, wish_asked, wish_in}
use Rattle.mt_runs.specs.Lines.{action_asked, next, talks_due, talks_told}
use Rattle.mt_runs.specs.Reopening.{ceiling_of, reopened}
use Rattle.mt_runs.specs.Whole.{SessionTalk, Whole, let_go}
use Rattle.mt_secrecy.specs.Alike.{masked_whole}
use Rattle.mt_masks.specs.Masking.{masked_action, masked_asked, masked_node, masked_request, masked_state}
use Rattle.mt_masks.specs.Laws.{ActionsStayMasked, LinesStayMasked, ReadsAreTheSame, StatesStayMasked, TicksStayMasked, ToldIsTheSame}
use Rattle.mt_secrecy.proofs.Lines.{asker_same, in_time_same, report_same}
use Rattle.mt_secrecy.proofs.Reopenings.{reopened_masked}

-- Subscriptions.

stands_same : (s : NodeState) (x : Subscription) → stands_in (masked_node s) x ≡ stands_in s x
stands_same s x = refl

left_same : (s : NodeState) (subs : SubState) → left_in (masked_node s) subs ≡ left_in s subs
left_same s subs = refl

wish_behind_same : (s : NodeState) (l : Ledger) (now : ℕ) (wish : Option Wish) → behind_wish_if_any (masked_node s) l now wish ≡ behind_wish_if_any s l now wish
wish_behind_same s l now wish = refl

wish_asked_same : (asking : Option Actor) (deadline : Option ℕ) (now : ℕ) (request : Request) → wish_asked asking deadline now (masked_request request) ≡ wish_asked asking deadline now request
wish_asked_same None deadline now request = refl
wish_asked_same (Some asking) deadline now request = in_time_same asking deadline now request

wish_in_same : (s : NodeState) (action : Action) (now : ℕ) → wish_in (masked_node s) (masked_action action) now ≡ wish_in s action now
wish_in_same s (actions.Ask actor request deadline) now =
    ap (λ (asking : Option Actor). wish_asked asking deadline now (masked_request request)) (asker_same s actor)
    ∙ wish_asked_same (asker s actor) deadline now request
wish_in_same s actions.Expire now = refl
wish_in_same s actions.Nothing now = refl

-- THE LEDGER.

module _ (states : StatesStayMasked) (tells : ToldIsTheSame) (given : Environment) where
  history_same : (s : NodeState) (action : Action) (now : ℕ) (h : History) → history_behind given (masked_node s) (masked_action action) now h ≡ history_behind given s action now h
  history_same s action now h = λ i. recorded_all now (tells given s action now i) (without_left (gone_between s.fabrics (states given s action now i).fabrics) h)

  pub acts_same : (s : NodeState) (action : Action) (now : ℕ) (l : Ledger) → ledger_behind given (masked_node s) (acts (masked_action action)) now l ≡ ledger_behind given s (acts action) now l
  acts_same s action now l = λ i. record {
    history = history_same s action now l.history i;
    subs = left_in (states given s action now i) (behind_wish_if_any s l now (wish_in_same s action now i));
  }

  pub reports_same : (s : NodeState) (fabric id now : ℕ) (l : Ledger) → ledger_behind given (masked_node s) (reports fabric id) now l ≡ ledger_behind given s (reports fabric id) now l
  reports_same s fabric id now l = λ i. record {
    history = history_same s actions.Nothing now l.history i;
    subs = left_in (states given s actions.Nothing now i) (behind_report s l now fabric id (due_now s l now fabric id));
  }

  -- LINES OF PLAIN ACTORS. The whole behind one:
  abbrev pub next_asked : Whole → Actor → ℕ → Result Request ImFault → Whole
  next_asked w actor ms asked = record {
    state = next_for given w.state actor ms asked;
    ledger = ledger_behind given w.state.node (acts (action_asked w.state actor asked)) ms w.ledger;
    talks = map (let_go w.state.node (next_for given w.state actor ms asked).node) w.talks;
  }

  -- the action that it makes
  action_same : (actor : Actor) (deadline : Option ℕ) (asked : Result Request ImFault) → action_of actor deadline (masked_asked asked) ≡ masked_action (action_of actor deadline asked)
  action_same actor deadline (Ok request) = refl
  action_same actor deadline (Err fault) = refl

  action_asked_same : (s : State) (actor : Actor) (asked : Result Request ImFault) → action_asked (masked_state s) actor (masked_asked asked) ≡ masked_action (action_asked s actor asked)
  action_asked_same s actor asked =
      ap (λ (asking : Option Actor). action_of actor (deadline_for s asking) (masked_asked asked)) (asker_same s.node actor)
      ∙ action_same actor (deadline_for s (asker s.node actor)) asked

  pub asked_masked : LinesStayMasked → (w : Whole) (actor : Actor) (ms : ℕ) (asked : Result Request ImFault) → next_asked (masked_whole w) actor ms (masked_asked asked) ≡ masked_whole (next_asked w actor ms asked)
  asked_masked lines w actor ms asked = λ i. record {
    state = lines given w.state actor ms asked i;
    ledger =
        (ap (λ (action : Action). ledger_behind given (masked_node w.state.node) (acts action) ms w.ledger) (action_asked_same w.state actor asked)
        ∙ acts_same w.state.node (action_asked w.state actor asked) ms w.ledger) i;
    talks = map (let_go w.state.node (lines given w.state actor ms asked i).node) w.talks;
  }

  -- A TIME STEP.
  pub tick_masked : TicksStayMasked → (w : Whole) (ms : ℕ) → next given (masked_whole w) (Tick ms) ≡ masked_whole (next given w (Tick ms))
  tick_masked ticks w ms = λ i. record {
    state = ticks given w.state ms i;
    ledger = acts_same w.state.node actions.Expire ms w.ledger i;
    talks = map (let_go w.state.node (ticks given w.state ms i).node) w.talks;
  }

  -- A REPORT STEP.

  talks_same : ReadsAreTheSame → (s : NodeState) (l : Ledger) (talks : List SessionTalk) (ms fabric id : ℕ) (due : Option Due) → talks_due (masked_node s) l talks ms fabric id due ≡ talks_due s l talks ms fabric id due
  talks_same reads s l talks ms fabric id None = refl
  talks_same reads s l talks ms fabric id (Some due) = ap (λ (report : Reply). talks_told ms id report talks due.kept.sub.actor.session) (report_same reads s l.history fabric id due)

  pub report_masked : ActionsStayMasked → ReadsAreTheSame → (w : Whole) (ms fabric id : ℕ) → next given (masked_whole w) (Report ms fabric id) ≡ masked_whole (next given w (Report ms fabric id))
  report_masked kept reads w ms fabric id = λ i. record {
    state = kept given w.state actions.Nothing ms i;
    ledger = reports_same w.state.node fabric id ms w.ledger i;
    talks = map (let_go w.state.node (kept given w.state actions.Nothing ms i).node) (talks_same reads w.state.node w.ledger w.talks ms fabric id (due_now w.state.node w.ledger ms fabric id) i);
  }

-- A LOSS OF POWER
pub reopens_masked : (sessions : List SessionRow) (w : Whole) → reopened sessions (masked_whole w) ≡ masked_whole (reopened sessions w)
reopens_masked sessions w = λ i. record (reopened sessions w) { state = record { node = reopened_masked sessions (ceiling_of w) w.state.node i; deadlines = [] } }
