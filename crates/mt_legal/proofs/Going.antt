-- A line of a run in which no stop of the disk is to come is carried out.
use Rattle.std.proofs.Common.{◌≡◌, ◌∙◌, refl, ap, Bool, true, false, true≢false, List, ◌∷◌, ◌++◌, None}
use Rattle.mt_model.specs.declared.texts.config.SessionRow.{SessionRow}
use Rattle.mt_model.specs.declared.texts.recording.Event.{Event}
use Rattle.mt_model.specs.declared.texts.recording.Event.TheVariants as events
use Rattle.mt_shares.specs.mt_machine.Environment.{Environment}
use Rattle.mt_shares.specs.mt_runs.Course.{Going, behind_course, changes_what_lasts, course, course_of_line, goes, going_on, stepped}
use Rattle.mt_shares.specs.mt_runs.Lines.{is_stop, next, sent}
use Rattle.mt_shares.specs.mt_runs.Messages as runs
use Rattle.mt_shares.specs.mt_runs.Whole.{Whole}

goes_on : (changes : Bool) → course_of_line changes None ≡ goes None
goes_on true = refl
goes_on false = refl

course_is : (given : Environment) (w : Whole) (event : Event) → is_stop event ≡ false → course given (going_on w) event ≡ goes None
course_is given w (events.Ask ms fabric node cats opcode payload) line = goes_on (changes_what_lasts given w (events.Ask ms fabric node cats opcode payload))
course_is given w (events.Datagram ms from bytes) line = goes_on (changes_what_lasts given w (events.Datagram ms from bytes))
course_is given w (events.Tick ms) line = goes_on (changes_what_lasts given w (events.Tick ms))
course_is given w (events.Report ms fabric subscription) line = goes_on (changes_what_lasts given w (events.Report ms fabric subscription))
course_is given w (events.Resend ms session) line = goes_on (changes_what_lasts given w (events.Resend ms session))
course_is given w (events.Stop calls fate) line = absurd (true≢false line)

module _ (given : Environment) (sessions : List SessionRow) (w v : Whole) (event : Event) (line : is_stop event ≡ false) (is : next given w event ≡ v) where
  sends : runs.sent_on_way given (going_on w) event ≡ sent given w event
  sends = ap (runs.sent_in given w event) (course_is given w event line)

  steps : stepped given sessions (going_on w) event ≡ going_on v
  steps = ap (behind_course given sessions w event) (course_is given w event line) ∙ ap going_on is

  -- It sends what it sends, and the run goes on with the whole behind it.
  pub run_line : (events : List Event) → runs.run given sessions (going_on w) (event ∷ events) ≡ sent given w event ++ runs.run given sessions (going_on v) events
  run_line events = λ i. sends i ++ runs.run given sessions (steps i) events

  pub behind_line : (events : List Event) → runs.behind given sessions (going_on w) (event ∷ events) ≡ runs.behind given sessions (going_on v) events
  behind_line events = ap (λ (g : Going). runs.behind given sessions g events) steps
