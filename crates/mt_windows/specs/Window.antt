-- The commissioning window of a node, as what is done tells it: which lines open it and which close it, whatever its rows are.
use Rattle.std.specs.Prelude.{ℕ, ◌==◌, not, Bool, false, List, [], ◌∷◌, Option, Some, None, unwrap_or, if◌then◌else◌}
use Rattle.mt_tlv.specs.declared.value.Value.{Value}
use Rattle.mt_meta.specs.Given.{number_of}
use Rattle.mt_model.specs.rows.Sight.{same_place}
use Rattle.mt_model.specs.declared.messages.message.Reply.{Reply}
use Rattle.mt_model.specs.declared.messages.message.Reply.TheVariants as replies
use Rattle.mt_model.specs.declared.messages.message.Request.{Request}
use Rattle.mt_model.specs.declared.messages.message.Request.TheVariants as requests
use Rattle.mt_model.specs.declared.node.action.Action.{Action}
use Rattle.mt_model.specs.declared.node.action.Action.TheVariants as actions
use Rattle.mt_model.specs.declared.node.state.NodeState.{NodeState}
use Rattle.mt_model.specs.declared.rows.place.Place.{Place}
use Rattle.mt_model.specs.declared.tables.access.Actor.{Actor}
use Rattle.mt_model.specs.declared.texts.config.SessionRow.{SessionRow}
use Rattle.mt_model.specs.declared.texts.recording.Event.{Event}
use Rattle.mt_admin.specs.Windows.{end_behind, has_ended, number_at, window_end}
use Rattle.mt_machine.specs.Environment.{Environment}
use Rattle.mt_machine.specs.Step.{reply_of, rows_of_nobody}
use Rattle.mt_runs.specs.Course.{Course, Going, course, goes, stepped, stops}
use Rattle.mt_runs.specs.Expiries.{action_at, time_of}
use Rattle.mt_runs.specs.Whole.{Whole}

-- The two attributes that say whether a window is open: WindowStatus, and WindowEnd, which is this project's own.
pub record Window : Type 0 where
  -- 0 none, 1 enhanced, 2 basic
  pub status : ℕ
  -- the time at which it ends, in ms, None where there is none
  pub until : Option ℕ

-- the window of a state, as its rows tell it
abbrev pub window_in : NodeState → Window
window_in s = record { status = unwrap_or (number_at (rows_of_nobody s) 0) 0; until = number_at (rows_of_nobody s) window_end }

abbrev pub is_open : Window → Bool
is_open window = not (window.status == 0)

-- Opened at this time for so many seconds, and closed.

abbrev pub opened : ℕ → ℕ → ℕ → Window
opened status seconds now = record { status = status; until = Some (end_behind now seconds) }

abbrev pub closed : Window
closed = record { status = 0; until = None }

-- The commands of Administrator Commissioning on endpoint 0.

abbrev pub command_at : ℕ → Place
command_at number = record { endpoint = 0; cluster = 0x3c; leaf = number }

abbrev pub open_commissioning_window : Place
open_commissioning_window = command_at 0

abbrev pub open_basic_commissioning_window : Place
open_basic_commissioning_window = command_at 1

abbrev pub revoke_commissioning : Place
revoke_commissioning = command_at 2

-- the field that both commands have that open a window: for how many seconds
abbrev pub timeout_in : Value → ℕ
timeout_in fields = number_of 0 fields

-- What a command makes of the window that gets the status 0: OpenCommissioningWindow and OpenBasicCommissioningWindow open one, RevokeCommissioning
-- closes it, and no other command changes it.
abbrev pub behind_command : Place → Value → ℕ → Window → Window
behind_command command fields now window =
    if same_place command open_commissioning_window then opened 1 (timeout_in fields) now
    else if same_place command open_basic_commissioning_window then opened 2 (timeout_in fields) now
    else if same_place command revoke_commissioning then closed
    else window

-- Whether a command gets the status 0 in this state, which is sent, or is suppressed where no answer is asked for.

abbrev pub is_success : Reply → Bool
is_success (replies.InvokeStatus command code) = code == 0
is_success reply = false

abbrev pub is_accepted : Environment → NodeState → Actor → Bool → Place → Value → Option ℕ → ℕ → Bool
is_accepted given s actor timed command fields deadline now = is_success (reply_of given s (actions.Ask actor (requests.Invoke false timed command fields) deadline) now)

-- no other request changes it
abbrev pub behind_request : Environment → NodeState → Actor → Request → Option ℕ → ℕ → Window → Window
behind_request given s actor (requests.Invoke suppress timed command fields) deadline now window =
    if is_accepted given s actor timed command fields deadline now then behind_command command fields now window else window
behind_request given s actor request deadline now window = window

-- A time step at its end, or behind it, closes it.
abbrev pub behind_tick : ℕ → Window → Window
behind_tick now window = if has_ended now window.until then closed else window

abbrev pub behind_action : Environment → NodeState → Action → ℕ → Window → Window
behind_action given s (actions.Ask actor request deadline) now window = behind_request given s actor request deadline now window
behind_action given s actions.Expire now window = behind_tick now window
behind_action given s actions.Nothing now window = window

-- THE WINDOW BEHIND A LINE that is carried out
abbrev pub behind_line : Environment → Whole → Event → Window → Window
behind_line given w event window = behind_action given w.state.node (action_at w event) (time_of event) window

-- a reopening closes it, in whichever line the disk stops
abbrev pub behind_course : Environment → Whole → Event → Course → Window → Window
behind_course given w event (goes stop) window = behind_line given w event window
behind_course given w event (stops line survived) window = closed

-- THE WINDOW BEHIND A RUN, where this one is there before it
abbrev pub window_behind : Environment → List SessionRow → Going → List Event → Window → Window
window_behind given sessions g [] window = window
window_behind given sessions g (event ∷ events) window = window_behind given sessions (stepped given sessions g event) events (behind_course given g.whole event (course given g event) window)
