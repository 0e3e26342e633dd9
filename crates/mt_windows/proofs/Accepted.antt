-- No command that opens a window is accepted while one is open.
use Rattle.std.proofs.Common.{◌≡◌, ℕ, ◌==◌, ◌||◌, ◌∙◌, is_some, not, Bool, true, false, List, Option, Some, None, Result, Ok, Err, refl, sym, subst, if◌then◌else◌}
use Rattle.std.proofs.lemmas.Bool.{not-true, or_parts}
use Rattle.mt_tlv.specs.declared.value.Value.{Value}
use Rattle.mt_admin.specs.Commands as admin
use Rattle.mt_admin.specs.Windows as windows
use Rattle.mt_admin.specs.declared.windows.Window.TheVariants.{Basic, Enhanced}
use Rattle.mt_invoke.specs.Checking.{checked, has_form}
use Rattle.mt_meta.specs.Given.{number_of}
use Rattle.mt_meta.specs.declared.meta.CommandMeta.{CommandMeta}
use Rattle.mt_model.specs.messages.Effects.{refused_at}
use Rattle.mt_model.specs.messages.Status.{code_of}
use Rattle.mt_model.specs.rows.Sight.{same_place}
use Rattle.mt_model.specs.declared.messages.message.Reply.{Reply}
use Rattle.mt_model.specs.declared.messages.message.Request.TheVariants as requests
use Rattle.mt_model.specs.declared.messages.status.Status.{Status}
use Rattle.mt_model.specs.declared.messages.status.Status.TheVariants.{InvalidCommand, TimedRequestMismatch, Timeout}
use Rattle.mt_model.specs.declared.node.action.NodeStep.{NodeStep}
use Rattle.mt_model.specs.declared.node.state.NodeState.{NodeState}
use Rattle.mt_model.specs.declared.rows.place.Place.{Place}
use Rattle.mt_model.specs.declared.tables.access.Actor.{Actor}
use Rattle.mt_machine.specs.Commands.{carried_out, nobodys_rows, unless_refused}
use Rattle.mt_machine.specs.Environment.{Environment}
use Rattle.mt_machine.specs.Laws.{TimesStayValid}
use Rattle.mt_machine.specs.Observation.{observation}
use Rattle.mt_machine.specs.State.{IsValid}
use Rattle.mt_machine.specs.Step.{asked_reply, asker, at_time, is_late, is_untimely, refusal, reply_to}
use Rattle.mt_windows.specs.Refusals.{is_no_discriminator}
use Rattle.mt_windows.specs.Window.{is_accepted, is_open, is_success, open_basic_commissioning_window, open_commissioning_window, window_in}
use Rattle.mt_windows.proofs.Answers.{checks_fail, fails}
use Rattle.mt_windows.proofs.Refusals.{open_reply, seen_open}
use Rattle.mt_windows.proofs.Rows.{place-same}

-- a success means that nothing stood in the way
success_free : (command : Place) (steps : List NodeStep) (breaks_limits stands unverified : Bool) → is_success (open_reply command steps breaks_limits stands unverified) ≡ true → stands ≡ false
success_free command steps true stands unverified is = absurd cc
success_free command steps false true unverified is = absurd cc
success_free command steps false false unverified is = refl

module _ (valid_later : TimesStayValid) (given : Environment) (s : NodeState) (valid : IsValid s) (command : Place) (fields : Value) (now : ℕ) where
  -- the reply to the command, once nothing else stands in its way, by whoever asks
  abbrev reply_for : Actor → Reply
  reply_for asking = (carried_out given (observation asking.fabric (at_time now s)) asking command fields).reply

  module _ (carried : (asking : Actor) → is_success (reply_for asking) ≡ true → is_open (window_in s) ≡ false) where
    by_form : (asking : Actor) (form : Bool) → is_success (if form then carried_out given (observation asking.fabric (at_time now s)) asking command fields else refused_at command InvalidCommand).reply ≡ true → is_open (window_in s) ≡ false
    by_form asking true is = carried asking is
    by_form asking false is = absurd cc

    by_check : (asking : Actor) (may : Result CommandMeta Status) → fails may ≡ true → is_success (unless_refused given (observation asking.fabric (at_time now s)) asking command fields may).reply ≡ true → is_open (window_in s) ≡ false
    by_check asking (Err status) failing is = let none : (code_of status == 0) ≡ false = not-true (code_of status == 0) failing in absurd cc
    by_check asking (Ok meta) failing is = by_form asking (has_form command fields) is

    in_time : (asking : Actor) (timed untimely : Bool)
        → is_success (if untimely then refusal (code_of TimedRequestMismatch) else (unless_refused given (observation asking.fabric (at_time now s)) asking command fields (checked (observation asking.fabric (at_time now s)).seen asking command timed)).reply) ≡ true
        → is_open (window_in s) ≡ false
    in_time asking timed true is = absurd cc
    in_time asking timed false is =
        let seen = (observation asking.fabric (at_time now s)).seen in
        by_check asking (checked seen asking command timed) (checks_fail seen asking command timed) is

    by_time : (asking : Actor) (timed : Bool) (deadline : Option ℕ) (late : Bool)
        → is_success (if late then refusal (code_of Timeout) else reply_to given (observation asking.fabric (at_time now s)) asking (is_some deadline) (requests.Invoke false timed command fields)) ≡ true → is_open (window_in s) ≡ false
    by_time asking timed deadline true is = absurd cc
    by_time asking timed deadline false is = in_time asking timed (is_untimely (is_some deadline) timed) is

    by_asker : (timed : Bool) (deadline : Option ℕ) (asking : Option Actor) → is_success (asked_reply given s (requests.Invoke false timed command fields) deadline now asking) ≡ true → is_open (window_in s) ≡ false
    by_asker timed deadline None is = absurd cc
    by_asker timed deadline (Some asking) is = by_time asking timed deadline (is_late deadline now) is

module _ (valid_later : TimesStayValid) (given : Environment) (s : NodeState) (valid : IsValid s) (fields : Value) (now : ℕ) where
  seen_now : (asking : Actor) → admin.is_busy (nobodys_rows (observation asking.fabric (at_time now s))) (observation asking.fabric (at_time now s)).known ≡ false → is_open (window_in s) ≡ false
  seen_now asking free =
      let o = observation asking.fabric (at_time now s) in
      sym (seen_open (at_time now s) (valid_later s now valid) asking.fabric) ∙ (or_parts (windows.is_open (nobodys_rows o)) (is_some o.known.armed) free).0

  open_free : (asking : Actor) → is_success (reply_for valid_later given s valid open_commissioning_window fields now asking) ≡ true → is_open (window_in s) ≡ false
  open_free asking is =
      let o = observation asking.fabric (at_time now s) in
      let steps = windows.opened Enhanced o.known.fabrics asking.fabric (number_of 0 fields) o.clock in
      seen_now asking (success_free open_commissioning_window steps (not (admin.is_timeout (number_of 0 fields)) || is_no_discriminator fields) (admin.is_busy (nobodys_rows o) o.known) (not (admin.is_verified fields)) is)

  basic_free : (asking : Actor) → is_success (reply_for valid_later given s valid open_basic_commissioning_window fields now asking) ≡ true → is_open (window_in s) ≡ false
  basic_free asking is =
      let o = observation asking.fabric (at_time now s) in
      let steps = windows.opened Basic o.known.fabrics asking.fabric (number_of 0 fields) o.clock in
      seen_now asking (success_free open_basic_commissioning_window steps (not (admin.is_timeout (number_of 0 fields))) (admin.is_busy (nobodys_rows o) o.known) false is)

  module _ (actor : Actor) (timed : Bool) (command : Place) (deadline : Option ℕ) (accepted : is_accepted given s actor timed command fields deadline now ≡ true) where
    abbrev accepted_at : Place → Type 0
    accepted_at place = is_accepted given s actor timed place fields deadline now ≡ true

    pub open_accepted : same_place command open_commissioning_window ≡ true → is_open (window_in s) ≡ false
    open_accepted is =
        by_asker valid_later given s valid open_commissioning_window fields now open_free timed deadline (asker s actor) (subst accepted_at (place-same command open_commissioning_window is) accepted)

    pub basic_accepted : same_place command open_basic_commissioning_window ≡ true → is_open (window_in s) ≡ false
    basic_accepted is =
        by_asker valid_later given s valid open_basic_commissioning_window fields now basic_free timed deadline (asker s actor) (subst accepted_at (place-same command open_basic_commissioning_window is) accepted)
