-- A window is open from the line that opens it up to the line that closes it.
use Rattle.std.proofs.Common.{◌≡◌, ℕ, ◌&&◌, ◌||◌, ◌∙◌, ◌++◌, nat_le, not, Bool, true, false, List, [], ◌∷◌, Option, Some, None, refl, sym, ap, subst, if◌then◌else◌}
use Rattle.mt_tlv.specs.declared.value.Value.{Value}
use Rattle.mt_admin.specs.Windows.{end_behind, has_ended}
use Rattle.mt_model.specs.rows.Sight.{same_place}
use Rattle.mt_model.specs.texts.Config.{are_sessions}
use Rattle.mt_model.specs.declared.messages.message.Request.{Request}
use Rattle.mt_model.specs.declared.messages.message.Request.TheVariants as requests
use Rattle.mt_model.specs.declared.node.action.Action.{Action}
use Rattle.mt_model.specs.declared.node.action.Action.TheVariants as actions
use Rattle.mt_model.specs.declared.node.state.NodeState.{NodeState}
use Rattle.mt_model.specs.declared.rows.place.Place.{Place}
use Rattle.mt_model.specs.declared.tables.access.Actor.{Actor}
use Rattle.mt_model.specs.declared.texts.config.SessionRow.{SessionRow}
use Rattle.mt_model.specs.declared.texts.recording.Event.{Event}
use Rattle.mt_opcreds.specs.Laws.{KeepsRules}
use Rattle.mt_machine.specs.Environment.{Environment}
use Rattle.mt_machine.specs.Laws.{TimesStayValid}
use Rattle.mt_machine.specs.State.{IsValid}
use Rattle.mt_machine.specs.Step.{after_action}
use Rattle.mt_runs.specs.Course.{Course, Going, course, goes, stepped, stops}
use Rattle.mt_runs.specs.Expiries.{action_at, time_of}
use Rattle.mt_runs.specs.Isolation.{IsValidWhole}
use Rattle.mt_runs.specs.Laws.{HasRoom, RunsStayValid}
use Rattle.mt_runs.specs.Messages.{behind}
use Rattle.mt_runs.specs.Whole.{Whole}
use Rattle.mt_windows.specs.Laws.{WindowsAreOpenSinceOpened}
use Rattle.mt_windows.specs.Openings.{closes_by_action, closes_by_request, closes_in, opened_by_action, opened_by_command, opened_by_request, opened_in, stays_if_opened, stays_open, was_opened}
use Rattle.mt_windows.specs.Window.{Window, behind_action, behind_command, behind_course, behind_request, behind_tick, closed, is_accepted, is_open, open_basic_commissioning_window, open_commissioning_window, revoke_commissioning, timeout_in, window_in}
use Rattle.mt_windows.proofs.Accepted.{basic_accepted, open_accepted}
use Rattle.mt_windows.proofs.Runs.{append-one, behind-more, room_before, step_follows, window_of_whole}

-- Whether a window is open, and until when: None where it is not.
abbrev Tells : Window → Option ℕ → Type 0
Tells window None = is_open window ≡ false
Tells window (Some until) = (is_open window ≡ true) × (window.until ≡ Some until)

-- where it was so before a line, behind one that opens a window until then, and that closes it or does not
abbrev behind_one : Option ℕ → (ℕ → Bool) → Option ℕ → Option ℕ
behind_one opening closes None = opening
behind_one opening closes (Some until) = if closes until then None else Some until

-- a line opens none where one is open
abbrev OpensNone : Option ℕ → Option ℕ → Type 0
OpensNone opening None = Unit {0}
OpensNone opening (Some until) = opening ≡ None

pub record TellsBehind (window behind_it : Window) (before opening : Option ℕ) (closes : ℕ → Bool) : Type 0 where
  pub tells : Tells behind_it (behind_one opening closes before)
  pub alone : OpensNone opening before

-- where nothing is done
unchanged : (window : Window) (before : Option ℕ) → Tells window before → TellsBehind window window before None (λ until. false)
unchanged window None tells = record { tells = tells; alone = tt }
unchanged window (Some until) tells = record { tells = tells; alone = refl }

-- where it is closed
closed_by : (window : Window) (before : Option ℕ) → TellsBehind window closed before None (λ until. true)
closed_by window None = record { tells = refl; alone = tt }
closed_by window (Some until) = record { tells = refl; alone = refl }

-- where a time step comes
ticked : (window : Window) (now : ℕ) (before : Option ℕ) → Tells window before → TellsBehind window (behind_tick now window) before None (λ until. nat_le until now)
ticked window now None tells = record { tells = by_end (has_ended now window.until); alone = tt }
  where
    by_end : (ended : Bool) → is_open (if ended then closed else window) ≡ false
    by_end true = refl
    by_end false = tells
ticked window now (Some until) tells = record {
  tells = subst (λ (ending : Option ℕ). Tells (if has_ended now ending then closed else window) (if nat_le until now then None else Some until)) (sym tells.1) (by_end (nat_le until now));
  alone = refl;
}
  where
    by_end : (ended : Bool) → Tells (if ended then closed else window) (if ended then None else Some until)
    by_end true = refl
    by_end false = tells

-- where a command is accepted, by which one it is
accepted_as : (window : Window) (seconds_end : ℕ) (before : Option ℕ) (enhanced basic revoke : Bool) → Tells window before → (enhanced ≡ true → is_open window ≡ false) → (basic ≡ true → is_open window ≡ false)
    → TellsBehind window (if enhanced then record { status = 1; until = Some seconds_end } else if basic then record { status = 2; until = Some seconds_end } else if revoke then closed else window) before
    (if enhanced || basic then Some seconds_end else None) (λ until. revoke)
accepted_as window seconds_end None true basic revoke tells free basic_free = record { tells = (refl, refl); alone = tt }
accepted_as window seconds_end None false true revoke tells free basic_free = record { tells = (refl, refl); alone = tt }
accepted_as window seconds_end None false false true tells free basic_free = record { tells = refl; alone = tt }
accepted_as window seconds_end None false false false tells free basic_free = record { tells = tells; alone = tt }
accepted_as window seconds_end (Some until) true basic revoke tells free basic_free = let none = free refl in let is = tells.0 in absurd cc
accepted_as window seconds_end (Some until) false true revoke tells free basic_free = let none = basic_free refl in let is = tells.0 in absurd cc
accepted_as window seconds_end (Some until) false false true tells free basic_free = record { tells = refl; alone = refl }
accepted_as window seconds_end (Some until) false false false tells free basic_free = record { tells = tells; alone = refl }

module _ (valid_later : TimesStayValid) (given : Environment) (s : NodeState) (valid : IsValid s) (before : Option ℕ) (tells : Tells (window_in s) before) where
  command_tells : (actor : Actor) (timed : Bool) (command : Place) (fields : Value) (deadline : Option ℕ) (now : ℕ) (success : Bool) → is_accepted given s actor timed command fields deadline now ≡ success
      → TellsBehind (window_in s) (if success then behind_command command fields now (window_in s) else window_in s) before
      (if success then opened_by_command command fields now else None) (λ until. success && same_place command revoke_commissioning)
  command_tells actor timed command fields deadline now false is = unchanged (window_in s) before tells
  command_tells actor timed command fields deadline now true is =
      accepted_as (window_in s) (end_behind now (timeout_in fields)) before
      (same_place command open_commissioning_window) (same_place command open_basic_commissioning_window) (same_place command revoke_commissioning) tells
      (open_accepted valid_later given s valid fields now actor timed command deadline is)
      (basic_accepted valid_later given s valid fields now actor timed command deadline is)

  request_tells : (actor : Actor) (request : Request) (deadline : Option ℕ) (now : ℕ)
      → TellsBehind (window_in s) (behind_request given s actor request deadline now (window_in s)) before (opened_by_request given s actor request deadline now) (λ until. closes_by_request given s actor request deadline now)
  request_tells actor (requests.Invoke suppress timed command fields) deadline now = command_tells actor timed command fields deadline now (is_accepted given s actor timed command fields deadline now) refl
  request_tells actor request deadline now = unchanged (window_in s) before tells

  action_tells : (action : Action) (now : ℕ)
      → TellsBehind (window_in s) (behind_action given s action now (window_in s)) before (opened_by_action given s action now) (closes_by_action given s action now)
  action_tells (actions.Ask actor request deadline) now = request_tells actor request deadline now
  action_tells actions.Expire now = ticked (window_in s) now before tells
  action_tells actions.Nothing now = unchanged (window_in s) before tells

course_tells : TimesStayValid → (given : Environment) (w : Whole) (event : Event) (c : Course) (before : Option ℕ) → IsValid w.state.node → Tells (window_of_whole w) before
    → TellsBehind (window_of_whole w) (behind_course given w event c (window_of_whole w)) before (opened_in given w event c) (closes_in given w event c)
course_tells valid_later given w event (goes stop) before valid tells = action_tells valid_later given w.state.node valid before tells (action_at w event) (time_of event)
course_tells valid_later given w event (stops line survived) before valid tells = closed_by (window_of_whole w) before

-- Runs.

module _ (given : Environment) (sessions : List SessionRow) where
  -- whether one is open behind lines, where this is so before them
  abbrev open_behind : Option ℕ → Going → List Event → Bool
  open_behind None g events = was_opened given sessions g events
  open_behind (Some until) g events = stays_open given sessions g events until || was_opened given sessions g events

  -- by whether the line closes it, and by whether what comes behind leaves it open
  closing : (closes stays others : Bool) → (until : ℕ) → (if closes then others else stays || others) ≡ (not closes && stays || (false || others))
  closing true stays others until = refl
  closing false stays others until = refl

  moved : (closes : Bool) (until : ℕ) (g : Going) (events : List Event) → open_behind (if closes then None else Some until) g events ≡ (if closes then was_opened given sessions g events else stays_open given sessions g events until || was_opened given sessions g events)
  moved true until g events = refl
  moved false until g events = refl

  first_opens : (opening : Option ℕ) (g : Going) (events : List Event) → open_behind opening g events ≡ (stays_if_opened given sessions g events opening || was_opened given sessions g events)
  first_opens None g events = refl
  first_opens (Some until) g events = refl

  one_more : (before : Option ℕ) (g : Going) (event : Event) (events : List Event) → OpensNone (opened_in given g.whole event (course given g event)) before
      → open_behind (behind_one (opened_in given g.whole event (course given g event)) (closes_in given g.whole event (course given g event)) before) (stepped given sessions g event) events ≡ open_behind before g (event ∷ events)
  one_more None g event events alone = first_opens (opened_in given g.whole event (course given g event)) (stepped given sessions g event) events
  one_more (Some until) g event events alone =
      let behind_it = stepped given sessions g event in
      let closes = closes_in given g.whole event (course given g event) until in
      moved closes until behind_it events
      ∙ closing closes (stays_open given sessions behind_it events until) (was_opened given sessions behind_it events) until
      ∙ ap (λ (opening : Option ℕ). not closes && stays_open given sessions behind_it events until || (stays_if_opened given sessions behind_it events opening || was_opened given sessions behind_it events)) (sym alone)

  ends_so : (window : Window) (before : Option ℕ) (g : Going) → Tells window before → is_open window ≡ open_behind before g []
  ends_so window None g tells = tells
  ends_so window (Some until) g tells = tells.0

  module _ (follows : (given : Environment) (s : NodeState) (action : Action) (now : ℕ) → KeepsRules given.judged → IsValid s → window_in (after_action given s action now) ≡ behind_action given s action now (window_in s))
      (valid_later : TimesStayValid) (stay_valid : RunsStayValid) (rules : KeepsRules given.judged) (fit : are_sessions sessions ≡ true) (g : Going) (valid : IsValidWhole g.whole)
    where
      abbrev so_far : List Event → Going
      so_far lines = behind given sessions g lines

      rest_open : (lines rest : List Event) (before : Option ℕ) → HasRoom g (lines ++ rest) → Tells (window_of_whole (so_far lines).whole) before
          → is_open (window_of_whole (behind given sessions (so_far lines) rest).whole) ≡ open_behind before (so_far lines) rest
      rest_open lines [] before room tells = ends_so (window_of_whole (so_far lines).whole) before (so_far lines) tells
      rest_open lines (event ∷ rest) before room tells =
          let h = so_far lines in
          let opening = opened_in given h.whole event (course given h event) in
          let now = behind_one opening (closes_in given h.whole event (course given h event)) before in
          let here : IsValidWhole h.whole = stay_valid given sessions g lines rules fit valid (room_before follows given rules sessions stay_valid fit g valid lines (event ∷ rest) room) in
          let longer : HasRoom g ((lines ++ event ∷ []) ++ rest) = subst (HasRoom g) (sym (append-one lines event rest)) room in
          let told = course_tells valid_later given h.whole event (course given h event) before here.node tells in
          let tells_now : Tells (window_of_whole (stepped given sessions h event).whole) now =
          subst (λ (window : Window). Tells window now) (sym (step_follows follows given rules sessions h event here.node)) told.tells in
          let step = behind-more given sessions lines g event in
          let later = rest_open (lines ++ event ∷ []) rest now longer (subst (λ (k : Going). Tells (window_of_whole k.whole) now) (sym step) tells_now) in
          subst (λ (k : Going). is_open (window_of_whole (behind given sessions k rest).whole) ≡ open_behind now k rest) step later
          ∙ one_more before h event rest told.alone

pub runs_open : ((given : Environment) (s : NodeState) (action : Action) (now : ℕ) → KeepsRules given.judged → IsValid s → window_in (after_action given s action now) ≡ behind_action given s action now (window_in s))
    → TimesStayValid → RunsStayValid → WindowsAreOpenSinceOpened
runs_open follows valid_later stay_valid given sessions g events rules fit valid room none = rest_open given sessions follows valid_later stay_valid rules fit g valid [] events None room none
