-- What an action leaves of the window: what it does tells it.
use Rattle.std.proofs.Common.{◌≡◌, ℕ, ◌∙◌, ◌++◌, is_some, not, Bool, true, false, List, [], ◌∷◌, Option, Some, None, refl, filter, if◌then◌else◌}
use Rattle.std.proofs.lemmas.Bool.{and_from}
use Rattle.std.proofs.lemmas.List.Folds.{list_all-append}
use Rattle.std.specs.List.{list_all}
use Rattle.mt_tlv.specs.declared.value.Value.{Value}
use Rattle.mt_admin.specs.Windows as windows
use Rattle.mt_admin.specs.Windows.{has_ended, number_at, window_at, window_end}
use Rattle.mt_apps.specs.EntryEvents.{entry_events}
use Rattle.mt_model.specs.messages.Status.{code_of}
use Rattle.mt_model.specs.rows.Order.{are_ascending}
use Rattle.mt_model.specs.rows.Seen.{Observation}
use Rattle.mt_model.specs.rows.Setting.{is_above, is_at, is_below}
use Rattle.mt_model.specs.rows.Sight.{same_place}
use Rattle.mt_model.specs.declared.messages.message.Request.{Request}
use Rattle.mt_model.specs.declared.messages.message.Request.TheVariants as requests
use Rattle.mt_model.specs.declared.messages.message.WriteItem.{WriteItem}
use Rattle.mt_model.specs.declared.messages.status.Status.TheVariants.{TimedRequestMismatch, Timeout}
use Rattle.mt_model.specs.declared.node.action.Action.{Action}
use Rattle.mt_model.specs.declared.node.action.Action.TheVariants as actions
use Rattle.mt_model.specs.declared.node.action.NodeStep.{NodeStep}
use Rattle.mt_model.specs.declared.node.action.NodeStep.TheVariants as steps
use Rattle.mt_model.specs.declared.node.state.NodeState.{NodeState}
use Rattle.mt_model.specs.declared.rows.place.Place.{Place}
use Rattle.mt_model.specs.declared.rows.place.Row.{Row}
use Rattle.mt_model.specs.declared.tables.access.Actor.{Actor}
use Rattle.mt_opcreds.specs.Laws.{KeepsRules}
use Rattle.mt_opcreds.specs.Moves.{StepsAreMoves}
use Rattle.mt_write.specs.Writing.{write_answer}
use Rattle.mt_machine.specs.Commands.{command_effect}
use Rattle.mt_machine.specs.Environment.{Environment}
use Rattle.mt_machine.specs.Laws.{StepsStayValid, TakesItsSteps, TimesStayValid}
use Rattle.mt_machine.specs.Observation.{observation}
use Rattle.mt_machine.specs.Rollback.{breadcrumb, is_due}
use Rattle.mt_machine.specs.State.{IsValid}
use Rattle.mt_machine.specs.Step.{after_action, asked_reply, asked_steps, asker, asker_of, at_time, is_late, is_untimely, refusal, reply_to, rows_of_nobody, steps_of, steps_to}
use Rattle.mt_windows.specs.Window.{Window, behind_action, behind_command, behind_request, closed, is_success, window_in}
use Rattle.mt_windows.proofs.Answers.{command_follows, window_of, window_spared, window_told}
use Rattle.mt_windows.proofs.Told.{behind_all, spares, told_all}
use Rattle.mt_windows.proofs.Writes.{IsUnwritten, end_unwritten, events_spare, status_unwritten, writes_spare}

-- What is asked.

module _ (moves : StepsAreMoves) (given : Environment) (first last : List Row) where
  -- the steps of a request make this of the window
  abbrev Makes : List NodeStep → Window → Type 0
  Makes steps window = window_told steps first last ≡ window

  -- what becomes of it by a command, where this is the reply to it
  abbrev by_command : Place → Value → ℕ → Bool → Window
  by_command command fields now success = if success then behind_command command fields now (window_of first last) else window_of first last

  module _ (o : Observation) (asking : Actor) (stood : Bool) where
    written_spare : (q : Place) → IsUnwritten q → (items : List WriteItem) (timed : Bool)
        → list_all (spares q) ((write_answer o.seen asking items timed).rows ++ entry_events asking o.seen.entries (write_answer o.seen asking items timed).rows) ≡ true
    written_spare q unwritten items timed =
        let rows = (write_answer o.seen asking items timed).rows in
        list_all-append (spares q) rows (entry_events asking o.seen.entries rows)
        ∙ and_from _ _ (writes_spare q unwritten o.seen asking timed items) (events_spare q asking o.seen.entries rows)

    write_makes : (items : List WriteItem) (timed untimely : Bool) → Makes (if untimely then [] else (write_answer o.seen asking items timed).rows ++ entry_events asking o.seen.entries (write_answer o.seen asking items timed).rows) (window_of first last)
    write_makes items timed true = refl
    write_makes items timed false =
        let rows = (write_answer o.seen asking items timed).rows in
        window_spared (rows ++ entry_events asking o.seen.entries rows) first last (written_spare (window_at 0) status_unwritten items timed) (written_spare (window_at window_end) end_unwritten items timed)

    command_makes : (timed : Bool) (command : Place) (fields : Value) (untimely : Bool)
        → Makes (if untimely then [] else (command_effect given o asking timed command fields).steps)
        (by_command command fields o.clock (is_success (if untimely then refusal (code_of TimedRequestMismatch) else (command_effect given o asking timed command fields).reply)))
    command_makes timed command fields true = refl
    command_makes timed command fields false = command_follows moves given o asking command fields first last timed

  -- by a request of this asker, where one is

  abbrev window_asked : NodeState → Request → Option ℕ → ℕ → Option Actor → Window
  window_asked s (requests.Invoke suppress timed command fields) deadline now asking =
      by_command command fields now (is_success (asked_reply given s (requests.Invoke false timed command fields) deadline now asking))
  window_asked s request deadline now asking = window_of first last

  module _ (s : NodeState) (deadline : Option ℕ) (now : ℕ) (asking : Actor) where
    abbrev seen_now : Observation
    seen_now = observation asking.fabric (at_time now s)

    abbrev window_in_time : Request → Bool → Window
    window_in_time (requests.Invoke suppress timed command fields) late =
        by_command command fields now (is_success (if late then refusal (code_of Timeout) else reply_to given seen_now asking (is_some deadline) (requests.Invoke false timed command fields)))
    window_in_time request late = window_of first last

    in_time : (request : Request) (late : Bool) → Makes (if late then [] else steps_to given seen_now asking (is_some deadline) request) (window_in_time request late)
    in_time (requests.Invoke suppress timed command fields) true = refl
    in_time (requests.Invoke suppress timed command fields) false = command_makes seen_now asking (is_some deadline) timed command fields (is_untimely (is_some deadline) timed)
    in_time (requests.Write suppress timed items) true = refl
    in_time (requests.Write suppress timed items) false = write_makes seen_now asking (is_some deadline) items timed (is_untimely (is_some deadline) timed)
    in_time request true = refl
    in_time request false = refl

    told_in_time : (request : Request) → window_in_time request (is_late deadline now) ≡ window_asked s request deadline now (Some asking)
    told_in_time (requests.Invoke suppress timed command fields) = refl
    told_in_time request = refl

  asked_makes : (s : NodeState) (request : Request) (deadline : Option ℕ) (now : ℕ) (asking : Option Actor) → Makes (asked_steps given s request deadline now asking) (window_asked s request deadline now asking)
  asked_makes s (requests.Invoke suppress timed command fields) deadline now None = refl
  asked_makes s request deadline now None = refl
  asked_makes s request deadline now (Some asking) = in_time s deadline now asking request (is_late deadline now) ∙ told_in_time s deadline now asking request

  told_asked : (s : NodeState) (actor : Actor) (request : Request) (deadline : Option ℕ) (now : ℕ) → window_asked s request deadline now (asker s actor) ≡ behind_request given s actor request deadline now (window_of first last)
  told_asked s actor (requests.Invoke suppress timed command fields) deadline now = refl
  told_asked s actor request deadline now = refl

  pub request_makes : (s : NodeState) (actor : Actor) (request : Request) (deadline : Option ℕ) (now : ℕ) → Makes (asked_steps given s request deadline now (asker s actor)) (behind_request given s actor request deadline now (window_of first last))
  request_makes s actor request deadline now = asked_makes s request deadline now (asker s actor) ∙ told_asked s actor request deadline now

-- A time step.

tick_makes : (first last : List Row) (due ended : Bool) → window_told ((if due then steps.Expire ∷ [] else []) ++ (if ended then windows.closed else [])) first last ≡ (if ended then closed else window_of first last)
tick_makes first last true true = refl
tick_makes first last true false = refl
tick_makes first last false true = refl
tick_makes first last false false = refl

-- Every action, by what its steps tell.

module _ (moves : StepsAreMoves) (given : Environment) (s : NodeState) where
  abbrev status_rows : List Row
  status_rows = rows_of_nobody s (window_at 0)

  abbrev end_rows : List Row
  end_rows = rows_of_nobody s (window_at window_end)

  action_makes : (action : Action) (now : ℕ) → window_told (steps_of given s action now) status_rows end_rows ≡ behind_action given s action now (window_in s)
  action_makes (actions.Ask actor request deadline) now = request_makes moves given status_rows end_rows s actor request deadline now
  action_makes actions.Expire now = tick_makes status_rows end_rows (is_due s.armed now) (has_ended now (number_at (rows_of_nobody s) window_end))
  action_makes actions.Nothing now = refl

  module _
      (ordered : (rows : List Row) (place : Place) (fabric : ℕ) → are_ascending rows ≡ true → filter (is_below place fabric) rows ++ filter (is_above place fabric) rows ≡ filter (λ (row : Row). not (is_at place fabric row)) rows)
      (rows_stay : (keep : Row → Bool) (rows : List Row) → are_ascending rows ≡ true → are_ascending (filter keep rows) ≡ true)
      (valid_behind : StepsStayValid) (valid_later : TimesStayValid) (takes : TakesItsSteps)
    where
      rows_behind : (q : Place) → same_place breadcrumb q ≡ false → (action : Action) (now : ℕ) → KeepsRules given.judged → IsValid s
          → rows_of_nobody (after_action given s action now) q ≡ told_all q (steps_of given s action now) (rows_of_nobody s q)
      rows_behind q apart action now rules valid =
          behind_all ordered rows_stay valid_behind q apart (asker_of s action) (steps_of given s action now) (at_time now s) (valid_later s now valid) (takes given s action now rules valid)

      pub action_follows : (action : Action) (now : ℕ) → KeepsRules given.judged → IsValid s → window_in (after_action given s action now) ≡ behind_action given s action now (window_in s)
      action_follows action now rules valid =
          (λ i. window_of (rows_behind (window_at 0) refl action now rules valid i) (rows_behind (window_at window_end) refl action now rules valid i))
          ∙ action_makes action now
