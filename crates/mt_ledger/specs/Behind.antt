-- The ledger behind whatever is done.
use Rattle.std.specs.Prelude.{ℕ, List}
use Rattle.mt_model.specs.declared.node.action.Action.{Action}
use Rattle.mt_model.specs.declared.node.action.Action.TheVariants.{Nothing}
use Rattle.mt_model.specs.declared.node.state.NodeState.{NodeState}
use Rattle.mt_subs.specs.Leaving.{left_in, without_ids}
use Rattle.mt_subs.specs.Subscriptions.{changed, confirmed}
use Rattle.mt_subs.specs.declared.subscription.SubState.{SubState}
use Rattle.mt_machine.specs.Environment.{Environment}
use Rattle.mt_machine.specs.Step.{after_action}
use Rattle.mt_ledger.specs.history.Behind.{history_behind}
use Rattle.mt_ledger.specs.Ledger.{Ledger}
use Rattle.mt_ledger.specs.Reporting.{behind_report, due_now}
use Rattle.mt_ledger.specs.Subscribing.{behind_wish_if_any, wish_in}

-- What is done: an action of the node; the last payload of a report is confirmed; subscriptions of a fabric end; one is reported to.
pub data Activity : Type 0 where
  acts : Action → Activity
  confirms : ℕ → ℕ → Activity
  ends : ℕ → List ℕ → Activity
  reports : ℕ → ℕ → Activity

-- the action of the node in it
abbrev pub action_in : Activity → Action
action_in (acts action) = action
action_in (confirms fabric id) = Nothing
action_in (ends fabric ids) = Nothing
action_in (reports fabric id) = Nothing

-- the subscriptions that it leaves, where all subscribers stay
abbrev pub subs_done : NodeState → Ledger → ℕ → Activity → SubState
subs_done s l now (acts action) = behind_wish_if_any s l now (wish_in s action now)
subs_done s l now (confirms fabric id) = changed fabric id confirmed l.subs
subs_done s l now (ends fabric ids) = without_ids fabric ids l.subs
subs_done s l now (reports fabric id) = behind_report s l now fabric id (due_now s l now fabric id)

abbrev pub state_done : Environment → NodeState → Activity → ℕ → NodeState
state_done given s activity now = after_action given s (action_in activity) now

-- THE LEDGER BEHIND IT. Who is not there any more has no subscription.
abbrev pub ledger_behind : Environment → NodeState → Activity → ℕ → Ledger → Ledger
ledger_behind given s activity now l = record {
  history = history_behind given s (action_in activity) now l.history;
  subs = left_in (state_done given s activity now) (subs_done s l now activity);
}
