-- No epoch key is told: with all of them masked the node does the same, and its state is the one that it has, masked.
use Rattle.std.specs.Prelude.{◌≡◌, ℕ, Bool, List, Result, map}
use Rattle.mt_im.specs.declared.fault.ImFault.{ImFault}
use Rattle.mt_model.specs.declared.messages.message.Path.{Path}
use Rattle.mt_model.specs.declared.messages.message.Request.{Request}
use Rattle.mt_model.specs.declared.node.action.Action.{Action}
use Rattle.mt_model.specs.declared.node.state.NodeState.{NodeState}
use Rattle.mt_model.specs.declared.node.state.Version.{Version}
use Rattle.mt_model.specs.declared.tables.access.Actor.{Actor}
use Rattle.mt_read.specs.Reading.{read_answer}
use Rattle.mt_machine.specs.Environment.{Environment}
use Rattle.mt_machine.specs.Lines.{behind_action, next_for, next_tick, sent_for}
use Rattle.mt_machine.specs.Observation.{observation}
use Rattle.mt_machine.specs.State.{State}
use Rattle.mt_machine.specs.Step.{after_action, aside_of, asker_of, reply_of, steps_of}
use Rattle.mt_machine.specs.Telling.{told}
use Rattle.mt_masks.specs.Masking.{masked_action, masked_asked, masked_node, masked_state, masked_step}

-- What an action is replied is the same, and so is who is taken as asking.
abbrev pub RepliesAreTheSame : Type 0
RepliesAreTheSame = (given : Environment) (s : NodeState) (action : Action) (now : ℕ) → reply_of given (masked_node s) (masked_action action) now ≡ reply_of given s action now

abbrev pub AskersAreTheSame : Type 0
AskersAreTheSame = (s : NodeState) (action : Action) → asker_of (masked_node s) (masked_action action) ≡ asker_of s action

-- Its steps are the same but for the key sets that they set, and the state behind it is the one that there is, masked.

abbrev pub StepsStayMasked : Type 0
StepsStayMasked = (given : Environment) (s : NodeState) (action : Action) (now : ℕ) → steps_of given (masked_node s) (masked_action action) now ≡ map masked_step (steps_of given s action now)

abbrev pub StatesStayMasked : Type 0
StatesStayMasked = (given : Environment) (s : NodeState) (action : Action) (now : ℕ) → after_action given (masked_node s) (masked_action action) now ≡ masked_node (after_action given s action now)

-- What else it does is the same: which sessions end, which fabric leaves the table, which events it tells.

abbrev pub AsidesAreTheSame : Type 0
AsidesAreTheSame = (given : Environment) (s : NodeState) (action : Action) (now : ℕ) → aside_of given (masked_node s) (masked_action action) now ≡ aside_of given s action now

abbrev pub ToldIsTheSame : Type 0
ToldIsTheSame = (given : Environment) (s : NodeState) (action : Action) (now : ℕ) → told given (masked_node s) (masked_action action) now ≡ told given s action now

-- What is read is the same, whoever reads.
abbrev pub ReadsAreTheSame : Type 0
ReadsAreTheSame = (fabric : ℕ) (s : NodeState) (actor : Actor) (paths : List Path) (filtered : Bool) (versions : List Version)
    → read_answer (observation fabric (masked_node s)).seen actor paths filtered versions ≡ read_answer (observation fabric s).seen actor paths filtered versions

-- Lines of plain actors, other actions, and time steps: they send the same, and the whole behind them is the one that there is, masked.

abbrev pub LinesSendTheSame : Type 0
LinesSendTheSame = (given : Environment) (s : State) (actor : Actor) (ms : ℕ) (asked : Result Request ImFault) → sent_for given (masked_state s) actor ms (masked_asked asked) ≡ sent_for given s actor ms asked

abbrev pub LinesStayMasked : Type 0
LinesStayMasked = (given : Environment) (s : State) (actor : Actor) (ms : ℕ) (asked : Result Request ImFault) → next_for given (masked_state s) actor ms (masked_asked asked) ≡ masked_state (next_for given s actor ms asked)

abbrev pub ActionsStayMasked : Type 0
ActionsStayMasked = (given : Environment) (s : State) (action : Action) (ms : ℕ) → behind_action given (masked_state s) (masked_action action) ms ≡ masked_state (behind_action given s action ms)

abbrev pub TicksStayMasked : Type 0
TicksStayMasked = (given : Environment) (s : State) (ms : ℕ) → next_tick given (masked_state s) ms ≡ masked_state (next_tick given s ms)
