-- When a window is open: from the line that opens it on, up to the line that closes it.
use Rattle.std.specs.Prelude.{ℕ, ◌&&◌, ◌||◌, nat_le, not, Bool, true, false, List, [], ◌∷◌, Option, Some, None, if◌then◌else◌}
use Rattle.mt_tlv.specs.declared.value.Value.{Value}
use Rattle.mt_model.specs.rows.Sight.{same_place}
use Rattle.mt_model.specs.declared.messages.message.Request.{Request}
use Rattle.mt_model.specs.declared.messages.message.Request.TheVariants as requests
use Rattle.mt_model.specs.declared.node.action.Action.{Action}
use Rattle.mt_model.specs.declared.node.action.Action.TheVariants as actions
use Rattle.mt_model.specs.declared.node.state.NodeState.{NodeState}
use Rattle.mt_model.specs.declared.rows.place.Place.{Place}
use Rattle.mt_model.specs.declared.tables.access.Actor.{Actor}
use Rattle.mt_model.specs.declared.texts.config.SessionRow.{SessionRow}
use Rattle.mt_model.specs.declared.texts.recording.Event.{Event}
use Rattle.mt_admin.specs.Windows.{end_behind}
use Rattle.mt_machine.specs.Environment.{Environment}
use Rattle.mt_runs.specs.Course.{Course, Going, course, goes, stepped, stops}
use Rattle.mt_runs.specs.Expiries.{action_at, time_of}
use Rattle.mt_runs.specs.Whole.{Whole}
use Rattle.mt_windows.specs.Window.{is_accepted, open_basic_commissioning_window, open_commissioning_window, revoke_commissioning, timeout_in}

-- The end of the window that a line opens, None where it opens none: a command opens one that is accepted.

abbrev pub opened_by_command : Place → Value → ℕ → Option ℕ
opened_by_command command fields now =
    if same_place command open_commissioning_window || same_place command open_basic_commissioning_window then Some (end_behind now (timeout_in fields)) else None

abbrev pub opened_by_request : Environment → NodeState → Actor → Request → Option ℕ → ℕ → Option ℕ
opened_by_request given s actor (requests.Invoke suppress timed command fields) deadline now = if is_accepted given s actor timed command fields deadline now then opened_by_command command fields now else None
opened_by_request given s actor request deadline now = None

abbrev pub opened_by_action : Environment → NodeState → Action → ℕ → Option ℕ
opened_by_action given s (actions.Ask actor request deadline) now = opened_by_request given s actor request deadline now
opened_by_action given s actions.Expire now = None
opened_by_action given s actions.Nothing now = None

abbrev pub opened_in : Environment → Whole → Event → Course → Option ℕ
opened_in given w event (goes stop) = opened_by_action given w.state.node (action_at w event) (time_of event)
opened_in given w event (stops line survived) = None

-- Whether a line closes the window that has this end: RevokeCommissioning that is accepted, a time step at that end or behind it, and a reopening do.

abbrev pub closes_by_request : Environment → NodeState → Actor → Request → Option ℕ → ℕ → Bool
closes_by_request given s actor (requests.Invoke suppress timed command fields) deadline now = is_accepted given s actor timed command fields deadline now && same_place command revoke_commissioning
closes_by_request given s actor request deadline now = false

abbrev pub closes_by_action : Environment → NodeState → Action → ℕ → ℕ → Bool
closes_by_action given s (actions.Ask actor request deadline) now until = closes_by_request given s actor request deadline now
closes_by_action given s actions.Expire now until = nat_le until now
closes_by_action given s actions.Nothing now until = false

abbrev pub closes_in : Environment → Whole → Event → Course → ℕ → Bool
closes_in given w event (goes stop) until = closes_by_action given w.state.node (action_at w event) (time_of event) until
closes_in given w event (stops line survived) until = true

-- whether none of these lines closes it
abbrev pub stays_open : Environment → List SessionRow → Going → List Event → ℕ → Bool
stays_open given sessions g [] until = true
stays_open given sessions g (event ∷ events) until = not (closes_in given g.whole event (course given g event) until) && stays_open given sessions (stepped given sessions g event) events until

abbrev pub stays_if_opened : Environment → List SessionRow → Going → List Event → Option ℕ → Bool
stays_if_opened given sessions g events None = false
stays_if_opened given sessions g events (Some until) = stays_open given sessions g events until

-- WHETHER A LINE OF A RUN OPENS A WINDOW that no line behind it closes
abbrev pub was_opened : Environment → List SessionRow → Going → List Event → Bool
was_opened given sessions g [] = false
was_opened given sessions g (event ∷ events) =
    stays_if_opened given sessions (stepped given sessions g event) events (opened_in given g.whole event (course given g event))
    || was_opened given sessions (stepped given sessions g event) events
