-- Laws of commissioning windows.
use Rattle.std.specs.Prelude.{◌≡◌, ◌||◌, true, false, List, [], ◌∷◌}
use Rattle.mt_tlv.specs.declared.value.Value.{Value}
use Rattle.mt_tlv.specs.declared.value.Value.TheVariants as values
use Rattle.mt_admin.specs.Windows.{nullable_value, window_at, window_end}
use Rattle.mt_model.specs.rows.Order.{row_at}
use Rattle.mt_model.specs.texts.Config.{are_sessions}
use Rattle.mt_model.specs.declared.node.state.NodeState.{NodeState}
use Rattle.mt_model.specs.declared.tables.access.Actor.{Actor}
use Rattle.mt_model.specs.declared.texts.config.SessionRow.{SessionRow}
use Rattle.mt_model.specs.declared.texts.recording.Event.{Event}
use Rattle.mt_opcreds.specs.Laws.{KeepsRules}
use Rattle.mt_machine.specs.Commands.{carried_out}
use Rattle.mt_machine.specs.Environment.{Environment}
use Rattle.mt_machine.specs.Observation.{observation}
use Rattle.mt_machine.specs.State.{IsValid, rows_of}
use Rattle.mt_runs.specs.Course.{Going}
use Rattle.mt_runs.specs.Isolation.{IsValidWhole}
use Rattle.mt_runs.specs.Laws.{HasRoom}
use Rattle.mt_runs.specs.Messages.{behind}
use Rattle.mt_windows.specs.Openings.{was_opened}
use Rattle.mt_windows.specs.Refusals.{IsOpenAnswered, IsRevokeAnswered, has_no_verifier, is_busy, is_no_discriminator, is_no_timeout}
use Rattle.mt_windows.specs.Window.{Window, is_open, open_basic_commissioning_window, open_commissioning_window, revoke_commissioning, window_behind, window_in}

-- The rows of WindowStatus and of WindowEnd are those of a window: one each, which is nobody's.
pub record Shows (s : NodeState) (window : Window) : Type 0 where
  pub status : rows_of s (window_at 0) ≡ row_at (window_at 0) 0 (values.Uint window.status) ∷ []
  pub until : rows_of s (window_at window_end) ≡ row_at (window_at window_end) 0 (nullable_value window.until) ∷ []

-- AT EACH MOMENT OF A RUN the rows are those of the window that its lines so far have made of the one of its first state. The list of lines may
-- be any, so that it may end at any moment of a longer run.
abbrev pub RunsShowTheirWindows : Type 0
RunsShowTheirWindows = (given : Environment) (sessions : List SessionRow) (g : Going) (events : List Event) → KeepsRules given.judged → are_sessions sessions ≡ true → IsValidWhole g.whole → HasRoom g events
    → Shows (behind given sessions g events).whole.state.node (window_behind given sessions g events (window_in g.whole.state.node))

-- SO A WINDOW IS OPEN from the line that opens it up to the line that closes it, and at no other time, where none is open at first.
abbrev pub WindowsAreOpenSinceOpened : Type 0
WindowsAreOpenSinceOpened = (given : Environment) (sessions : List SessionRow) (g : Going) (events : List Event) → KeepsRules given.judged → are_sessions sessions ≡ true → IsValidWhole g.whole → HasRoom g events
    → is_open (window_in g.whole.state.node) ≡ false
    → is_open (window_in (behind given sessions g events).whole.state.node) ≡ was_opened given sessions g events

-- What a command that nothing else stands in the way of comes to in a valid state.

abbrev pub OpensAreExact : Type 0
OpensAreExact = (given : Environment) (s : NodeState) (actor : Actor) (fields : Value) → IsValid s
    → IsOpenAnswered open_commissioning_window (is_no_timeout fields || is_no_discriminator fields) (is_busy s) (has_no_verifier fields)
    (carried_out given (observation actor.fabric s) actor open_commissioning_window fields).reply

abbrev pub BasicOpensAreExact : Type 0
BasicOpensAreExact = (given : Environment) (s : NodeState) (actor : Actor) (fields : Value) → IsValid s
    → IsOpenAnswered open_basic_commissioning_window (is_no_timeout fields) (is_busy s) false
    (carried_out given (observation actor.fabric s) actor open_basic_commissioning_window fields).reply

abbrev pub RevokesAreExact : Type 0
RevokesAreExact = (given : Environment) (s : NodeState) (actor : Actor) (fields : Value) → IsValid s
    → IsRevokeAnswered revoke_commissioning (is_open (window_in s)) (carried_out given (observation actor.fabric s) actor revoke_commissioning fields).reply
