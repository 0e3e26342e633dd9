-- What a run leaves of the window: what its lines make of it, one after the other.
use Rattle.std.proofs.Common.{◌≡◌, ℕ, ◌∙◌, ◌++◌, true, List, [], ◌∷◌, refl, sym, ap, arith, length-append, subst}
use Rattle.mt_model.specs.texts.Config.{are_sessions}
use Rattle.mt_model.specs.declared.node.action.Action.{Action}
use Rattle.mt_model.specs.declared.node.action.Action.TheVariants as actions
use Rattle.mt_model.specs.declared.node.state.NodeState.{NodeState}
use Rattle.mt_model.specs.declared.texts.config.SessionRow.{SessionRow}
use Rattle.mt_model.specs.declared.texts.recording.Event.{Event}
use Rattle.mt_model.specs.declared.texts.recording.Event.TheVariants as events
use Rattle.mt_opcreds.specs.Laws.{KeepsRules}
use Rattle.mt_machine.specs.Environment.{Environment}
use Rattle.mt_machine.specs.State.{IsValid}
use Rattle.mt_machine.specs.Step.{after_action}
use Rattle.mt_runs.specs.Course.{Course, Going, course, goes, stepped, stops, surviving}
use Rattle.mt_runs.specs.Course as courses
use Rattle.mt_runs.specs.Expiries.{action_at}
use Rattle.mt_runs.specs.Isolation.{IsValidWhole}
use Rattle.mt_runs.specs.Laws.{HasRoom, RunsStayValid}
use Rattle.mt_runs.specs.Lines.{next}
use Rattle.mt_runs.specs.Messages.{behind}
use Rattle.mt_runs.specs.Whole.{Whole}
use Rattle.mt_windows.specs.Laws.{RunsShowTheirWindows, Shows}
use Rattle.mt_windows.specs.Window.{Window, behind_action, behind_course, behind_line, window_behind, window_in}
use Rattle.mt_windows.proofs.Reopened.{reopenings_close}
use Rattle.mt_windows.proofs.Shown.{valid_shows}

-- the window of a whole
abbrev pub window_of_whole : Whole → Window
window_of_whole w = window_in w.state.node

-- a run that is longer by one line
pub behind-more : (given : Environment) (sessions : List SessionRow) (before : List Event) (g : Going) (event : Event) → behind given sessions g (before ++ event ∷ []) ≡ stepped given sessions (behind given sessions g before) event
behind-more given sessions [] g event = refl
behind-more given sessions (line ∷ before) g event = behind-more given sessions before (stepped given sessions g line) event

pub append-one : (before : List Event) (event : Event) (rest : List Event) → (before ++ event ∷ []) ++ rest ≡ before ++ event ∷ rest
append-one [] event rest = refl
append-one (line ∷ before) event rest = ap (λ (l : List Event). line ∷ l) (append-one before event rest)

-- where every action leaves what it tells
module _ (follows : (given : Environment) (s : NodeState) (action : Action) (now : ℕ) → KeepsRules given.judged → IsValid s → window_in (after_action given s action now) ≡ behind_action given s action now (window_in s))
    (given : Environment) (rules : KeepsRules given.judged)
  where
    line_follows : (w : Whole) (event : Event) → IsValid w.state.node → window_of_whole (next given w event) ≡ behind_line given w event (window_of_whole w)
    line_follows w (events.Ask ms fabric node cats opcode payload) valid = follows given w.state.node (action_at w (events.Ask ms fabric node cats opcode payload)) ms rules valid
    line_follows w (events.Datagram ms from bytes) valid = follows given w.state.node (action_at w (events.Datagram ms from bytes)) ms rules valid
    line_follows w (events.Tick ms) valid = follows given w.state.node actions.Expire ms rules valid
    line_follows w (events.Report ms fabric subscription) valid = follows given w.state.node actions.Nothing ms rules valid
    line_follows w (events.Resend ms session) valid = follows given w.state.node actions.Nothing ms rules valid
    line_follows w (events.Stop calls fate) valid = refl

    module _ (sessions : List SessionRow) where
      course_follows : (w : Whole) (event : Event) (c : Course) → IsValid w.state.node → window_of_whole (courses.behind_course given sessions w event c).whole ≡ behind_course given w event c (window_of_whole w)
      course_follows w event (goes stop) valid = line_follows w event valid
      course_follows w event (stops line survived) valid = reopenings_close sessions (surviving given w event survived)

      pub step_follows : (g : Going) (event : Event) → IsValid g.whole.state.node → window_of_whole (stepped given sessions g event).whole ≡ behind_course given g.whole event (course given g event) (window_of_whole g.whole)
      step_follows g event valid = course_follows g.whole event (course given g event) valid

      module _ (stay_valid : RunsStayValid) (fit : are_sessions sessions ≡ true) (g : Going) (valid : IsValidWhole g.whole) where
        abbrev so_far : List Event → Going
        so_far before = behind given sessions g before

        pub room_before : (before rest : List Event) → HasRoom g (before ++ rest) → HasRoom g before
        room_before before rest room = omega (arith, length-append before rest)

        rest_follows : (before rest : List Event) → HasRoom g (before ++ rest)
            → window_of_whole (behind given sessions (so_far before) rest).whole ≡ window_behind given sessions (so_far before) rest (window_of_whole (so_far before).whole)
        rest_follows before [] room = refl
        rest_follows before (event ∷ rest) room =
            let here : IsValidWhole (so_far before).whole = stay_valid given sessions g before rules fit valid (room_before before (event ∷ rest) room) in
            let longer : HasRoom g ((before ++ event ∷ []) ++ rest) = subst (HasRoom g) (sym (append-one before event rest)) room in
            let later = rest_follows (before ++ event ∷ []) rest longer in
            subst (λ (h : Going). window_of_whole (behind given sessions h rest).whole ≡ window_behind given sessions h rest (window_of_whole h.whole)) (behind-more given sessions before g event) later
            ∙ ap (window_behind given sessions (stepped given sessions (so_far before) event) rest) (step_follows (so_far before) event here.node)

pub runs_show : ((given : Environment) (s : NodeState) (action : Action) (now : ℕ) → KeepsRules given.judged → IsValid s → window_in (after_action given s action now) ≡ behind_action given s action now (window_in s)) → RunsStayValid → RunsShowTheirWindows
runs_show follows stay_valid given sessions g events rules fit valid room =
    let behind_valid : IsValidWhole (behind given sessions g events).whole = stay_valid given sessions g events rules fit valid room in
    subst (Shows (behind given sessions g events).whole.state.node) (rest_follows follows given rules sessions stay_valid fit g valid [] events room)
    (valid_shows (behind given sessions g events).whole.state.node behind_valid.node)
