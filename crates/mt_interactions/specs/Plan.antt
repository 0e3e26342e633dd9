-- What an outcome stands for.
use Rattle.std.specs.Prelude.{◌≡◌, ℕ, ◌++◌, Bool, true, false, List, Option, Some, None, Result, Ok, Err, filter, length, unwrap_or}
use Rattle.mt_im.specs.declared.fault.ImFault.{ImFault}
use Rattle.mt_im.specs.declared.fault.ImFault.TheVariants as faults
use Rattle.mt_model.specs.tables.Leaving.{stays}
use Rattle.mt_model.specs.declared.tables.access.Actor.{Actor}
use Rattle.mt_model.specs.declared.node.action.PlainDeadline.{PlainDeadline}
use Rattle.mt_model.specs.declared.messages.message.Request.{Request}
use Rattle.mt_node.specs.mt_lasting.Changes.{bytes_to_commit, change_between, raised}
use Rattle.mt_node.specs.Plan as nodes
use Rattle.mt_node.specs.Plan.{applied}
use Rattle.mt_node.specs.declared.outcome.Outcome.{Outcome}
use Rattle.mt_model.specs.declared.node.action.Action.TheVariants.{Expire, Nothing}
use Rattle.mt_subs.specs.Leaving.{left_in}
use Rattle.mt_node.specs.mt_machine.Environment.{Environment}
use Rattle.mt_node.specs.mt_machine.Isolation.{is_deadline_in}
use Rattle.mt_node.specs.mt_machine.Lines.{behind_action, next_for, next_tick, without}
use Rattle.mt_node.specs.mt_machine.State.{State}
use Rattle.mt_node.specs.mt_machine.Step.{after_action}
use Rattle.mt_runs.specs.mt_ledger.HistoryBehind.{history_behind}
use Rattle.mt_runs.specs.mt_ledger.History.{History, recorded_all, without_left}
use Rattle.mt_runs.specs.mt_ledger.Behind.{Activity, acts, action_in, ledger_behind}
use Rattle.mt_runs.specs.mt_ledger.Ledger.{Ledger}
use Rattle.mt_runs.specs.Lines.{action_asked}
use Rattle.mt_interactions.specs.Recording.{may_record}
use Rattle.mt_interactions.specs.Subscribing.{applied_subs}
use Rattle.mt_interactions.specs.declared.behind.SubsBehind.{SubsBehind}
use Rattle.mt_interactions.specs.declared.outcome.InteractionOutcome.{InteractionOutcome}

-- how many other actors of an actor's fabric have a deadline
abbrev pub others_in : Actor → List PlainDeadline → ℕ
others_in actor deadlines = length (filter (is_deadline_in actor.fabric) (without actor deadlines))

-- the state behind an outcome
abbrev pub applied_state : InteractionOutcome → State → State
applied_state outcome s = record { node = applied outcome.node s.node; deadlines = unwrap_or outcome.deadlines s.deadlines }

-- whether a payload was not decoded for want of memory
abbrev pub is_want_of_memory : Result Request ImFault → Bool
is_want_of_memory (Ok request) = false
is_want_of_memory (Err faults.Memory) = true
is_want_of_memory (Err fault) = false

-- the deadlines of the fabric that goes, if any, go with it
abbrev pub left_without : Option ℕ → List PlainDeadline → List PlainDeadline
left_without None deadlines = deadlines
left_without (Some fabric) deadlines = filter (λ (deadline : PlainDeadline). stays (Some fabric) deadline.fabric) deadlines

-- The history behind an outcome: what is private to the fabric that goes is forgotten, and all that is told is recorded.
abbrev pub applied_history : InteractionOutcome → History → History
applied_history outcome h = recorded_all outcome.ms outcome.node.told (without_left outcome.node.gone h)

-- The ledger behind it: subscriptions whose subscriber is not there any more end.
abbrev pub applied_ledger : InteractionOutcome → State → Ledger → Ledger
applied_ledger outcome s l = record {
  history = applied_history outcome l.history;
  subs = left_in (applied outcome.node s.node) (applied_subs outcome.subs outcome.ms l.subs);
}

-- What has to be committed for a node's outcome at a time: what it changes, and in front of that the ceiling of event numbers, where what it
-- tells raises that.
abbrev pub told_to_commit : History → ℕ → Outcome → List ℕ
told_to_commit h ms node = bytes_to_commit (raised h.numbers.ceiling (recorded_all ms node.told (without_left node.gone h)).numbers.ceiling ++ node.change)

-- The outcome was made on this state, where this was the ledger, in which all that it tells can be recorded. What is to be committed before it
-- is put in place leads from the durable map before it to that behind it.
pub record IsPlanned (s : State) (l : Ledger) (outcome : InteractionOutcome) : Type 0 where
  pub node : nodes.IsPlanned s.node outcome.node
  pub recordable : may_record outcome.node.told l.history ≡ true
  pub change : outcome.change ≡ bytes_to_commit (change_between s.node l.history.numbers.ceiling (applied outcome.node s.node) (applied_history outcome l.history).numbers.ceiling)

-- The outcome is that of a line of this actor, whose payload was decoded to this.
pub record IsLine (given : Environment) (s : State) (l : Ledger) (ms : ℕ) (actor : Actor) (asked : Result Request ImFault) (outcome : InteractionOutcome) : Type 0 where
  pub state : applied_state outcome s ≡ next_for given s actor ms asked
  pub ledger : applied_ledger outcome s l ≡ ledger_behind given s.node (acts (action_asked s actor asked)) ms l
  pub planned : IsPlanned s l outcome

-- The outcome is that of a time step.
pub record IsTick (given : Environment) (s : State) (l : Ledger) (ms : ℕ) (outcome : InteractionOutcome) : Type 0 where
  pub state : applied_state outcome s ≡ next_tick given s ms
  pub ledger : applied_ledger outcome s l ≡ ledger_behind given s.node (acts Expire) ms l
  pub planned : IsPlanned s l outcome

-- The outcome is that of this, which no line of a plain actor does.
pub record IsDone (given : Environment) (s : State) (l : Ledger) (activity : Activity) (ms : ℕ) (outcome : InteractionOutcome) : Type 0 where
  pub state : applied_state outcome s ≡ behind_action given s (action_in activity) ms
  pub ledger : applied_ledger outcome s l ≡ ledger_behind given s.node activity ms l
  pub planned : IsPlanned s l outcome

-- Time passes, and this is made of the subscriptions.
pub record IsPassing (given : Environment) (s : State) (l : Ledger) (ms : ℕ) (made : SubsBehind) (outcome : InteractionOutcome) : Type 0 where
  pub state : applied_state outcome s ≡ behind_action given s Nothing ms
  pub ledger : applied_ledger outcome s l ≡ record { history = history_behind given s.node Nothing ms l.history; subs = left_in (after_action given s.node Nothing ms) (applied_subs made ms l.subs) }
  pub planned : IsPlanned s l outcome

-- the sessions that end with an outcome are those that are live before it and not behind it
abbrev pub closed_by : InteractionOutcome → List ℕ
closed_by outcome = outcome.node.closed
