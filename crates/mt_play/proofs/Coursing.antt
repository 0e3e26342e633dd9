-- What becomes of a line, by the outcome that was planned for it, and what that makes of a run.
use Rattle.std.proofs.Common.{◌≡◌, ◌≢◌, ◌∙◌, refl, sym, ap, subst, ℕ, Bool, true, false, not, true≢false, List, [], ◌∷◌, Option, Some, None, Result, Ok, Err}
use Rattle.std.specs.Prelude.{◌↔◌, IfOk, IfSome, OnErr, is_some}
use Rattle.mt_whole.specs.mt_lasting.Contents.{durable}
use Rattle.mt_model.specs.declared.texts.config.SessionRow.{SessionRow}
use Rattle.mt_model.specs.declared.texts.recording.Event.{Event}
use Rattle.mt_model.specs.declared.texts.recording.Event.TheVariants as events
use Rattle.mt_model.specs.declared.texts.recording.Sent.{Sent}
use Rattle.mt_outside.specs.declared.fate.Fate.{Fate}
use Rattle.mt_whole.specs.mt_machine.Environment.{Environment}
use Rattle.mt_whole.specs.mt_machine.State.{State}
use Rattle.mt_whole.specs.mt_ledger.Ledger.{Ledger}
use Rattle.mt_whole.specs.mt_runs.Course.{Course, Going, Stop, behind_course, course, course_of_line, goes, stops}
use Rattle.mt_whole.specs.mt_runs.Laws.{LastsTheSame, LinesThatChangeMakeCalls, LinesThatKeepMakeNone}
use Rattle.mt_whole.specs.mt_runs.Lines.{is_stop, sent}
use Rattle.mt_whole.specs.mt_runs.Messages.{sent_in}
use Rattle.mt_whole.specs.mt_runs.Reopening.{ceiling_of}
use Rattle.mt_whole.specs.mt_runs.Whole.{Whole}
use Rattle.mt_whole.specs.mt_interactions.Committing.{CommitsLeadOn, LeadsOn}
use Rattle.mt_whole.specs.Plan.{IsPlan, IsPlanned}
use Rattle.mt_whole.specs.Plan as wholes
use Rattle.mt_whole.specs.declared.outcome.WholeOutcome.{WholeOutcome}
use Rattle.mt_play.specs.Courses.{IsTold, coming, course_by, course_in}
use Rattle.mt_play.specs.Plays.{Brings, GoesTo, IsPlannedLine, IsPlaying, ReopensTo, StepsTo, StopsInCommit, has_change, has_some}
use Rattle.mt_play.specs.declared.course.Course as code
use Rattle.mt_play.specs.declared.course.Course.TheVariants as codes
use Rattle.mt_play.specs.declared.playing.Planned.{Planned}
use Rattle.mt_play.specs.declared.playing.Playing.{Playing}

-- Lines that stop the disk, and all others.

no_stop : (b : Bool) → true ≡ not b → b ≡ false
no_stop true is = absurd (true≢false is)
no_stop false is = refl

a_stop : (b : Bool) → false ≡ not b → b ≡ true
a_stop true is = refl
a_stop false is = absurd (true≢false (sym is))

pub by_other : (event : Event) (changes : Bool) (stop : Option Stop) → is_stop event ≡ false → course_by event changes stop ≡ course_of_line changes stop
by_other (events.Stop calls fate) changes stop goes_on = absurd (true≢false goes_on)
by_other event changes stop goes_on = refl

pub by_no_stop : (event : Event) (changes : Bool) (stop : Option Stop) → ((calls : ℕ) (fate : Fate) → event ≡ events.Stop calls fate → ⊥) → course_by event changes stop ≡ course_of_line changes stop
by_no_stop (events.Stop calls fate) changes stop other = absurd (other calls fate refl)
by_no_stop event changes stop other = refl

by_stop : (given : Environment) (g : Going) (event : Event) (changes : Bool) → is_stop event ≡ true → course_by event changes g.stop ≡ course given g event
by_stop given g (events.Stop calls fate) changes at = refl
by_stop given g event changes at = absurd (true≢false (sym at))

pub sends_nothing : (given : Environment) (w : Whole) (event : Event) → is_stop event ≡ true → sent given w event ≡ []
sends_nothing given w (events.Stop calls fate) at = refl
sends_nothing given w event at = absurd (true≢false (sym at))

-- A line has something to commit exactly where what lasts is another behind it, and so it makes calls of the disk there.

lasts_by : (given : Environment) (w : Whole) (event : Event) (outcome : WholeOutcome) → LeadsOn w.state w.ledger outcome.interactions → wholes.Brings given w event outcome
    → (outcome.interactions.change ≡ []) ↔ LastsTheSame given w event
lasts_by given w event outcome leads brings =
    subst (λ (x : State × Ledger). (outcome.interactions.change ≡ []) ↔ (durable w.state.node (ceiling_of w) ≡ durable x.0.node x.1.history.numbers.ceiling))
    (λ i. (brings.state i, brings.ledger i)) leads.nothing

some_byte : (byte : ℕ) (bytes : List ℕ) → (byte ∷ bytes) ≢ []
some_byte byte bytes is = true≢false (ap has_some is)

by_change : LinesThatKeepMakeNone → LinesThatChangeMakeCalls → (given : Environment) (g : Going) (event : Event) (change : List ℕ) → is_stop event ≡ false
    → (change ≡ []) ↔ LastsTheSame given g.whole event → course_of_line (has_some change) g.stop ≡ course given g event
by_change keep change given g event [] goes_on lasts = sym (keep given g event goes_on (lasts.0 refl))
by_change keep change given g event (byte ∷ bytes) goes_on lasts = sym (change given g event goes_on (λ same. some_byte byte bytes (lasts.1 same)))

-- What becomes of a line is what becomes of it by whether its outcome has something to commit.
pub course_planned : LinesThatKeepMakeNone → LinesThatChangeMakeCalls → CommitsLeadOn → (given : Environment) (g : Going) (event : Event) (outcome : Option WholeOutcome) → is_some outcome ≡ not (is_stop event)
    → IfSome outcome (IsPlanned g.whole.state g.whole.ledger) → IfSome outcome (IsPlan given g.whole event) → course_by event (has_change outcome) g.stop ≡ course given g event
course_planned keep change lead given g event None has planned plan = by_stop given g event false (a_stop (is_stop event) has)
course_planned keep change lead given g event (Some outcome) has planned plan =
    let goes_on : is_stop event ≡ false = no_stop (is_stop event) has in
    by_other event (has_some outcome.interactions.change) g.stop goes_on
    ∙ by_change keep change given g event outcome.interactions.change goes_on (lasts_by given g.whole event outcome (lead g.whole.state g.whole.ledger outcome.interactions planned) plan.brings)

-- The disk stops in a line only where that has something to commit, or at the line that stops it.

stops_in_change : (change : List ℕ) (stop : Option Stop) (line : Event) (survived : Bool) → stops line survived ≡ course_of_line (has_some change) stop → change ≢ []
stops_in_change [] stop line survived is = absurd cc
stops_in_change (byte ∷ bytes) stop line survived is = some_byte byte bytes

pub stops_in_commit : (event : Event) (outcome : Option WholeOutcome) (stop : Option Stop) (course : code.Course) → is_some outcome ≡ not (is_stop event) → course_in course ≡ course_by event (has_change outcome) stop
    → IsTold course → IfSome outcome (StopsInCommit course)
stops_in_commit event None stop course has is told = tt
stops_in_commit event (Some outcome) stop (codes.Goes coming) has is told = tt
stops_in_commit event (Some outcome) stop (codes.Stops by survived) has is told = (
  stops_in_change outcome.interactions.change stop (events.Stop by.asked by.fate) survived (is ∙ by_other event (has_some outcome.interactions.change) stop (no_stop (is_stop event) has)),
  told.0,
)

-- A line that brings no outcome stops the disk.

pub none_is : {A : Type 0} (o : Option A) → ((x : A) → o ≡ Some x → ⊥) → o ≡ None
none_is None other = refl
none_is (Some x) other = absurd (other x refl)

pub no_outcome : (given : Environment) (g : Going) (event : Event) → Brings given g event None → is_stop event ≡ true
no_outcome given g event brings = a_stop (is_stop event) brings.has

-- What a line makes of a run, by what becomes of it.

pub if_ok_then : {T E : Type 0} (result : Result T E) (P Q : T → Type 0) → ((x : T) → P x → Q x) → IfOk result P → IfOk result Q
if_ok_then (Ok x) P Q leads p = leads x p
if_ok_then (Err e) P Q leads p = tt

-- what holds, holds of an error too
pub on_err : {T E : Type 0} (result : Result T E) (P : Type 0) → P → OnErr result P
on_err (Ok x) P p = tt
on_err (Err e) P p = p

module _ (given : Environment) (sessions : List SessionRow) (g : Going) (event : Event) (new : Playing) (told : List Sent) where
  pub goes_on : (stop : Option Stop) → goes stop ≡ course given g event → GoesTo given sessions g event stop new told → StepsTo given sessions g event new told
  goes_on stop is to = record {
    sent = to.sent ∙ ap (sent_in given g.whole event) is;
    stands = subst (λ (one : Course). IsPlaying new given sessions (behind_course given sessions g.whole event one)) is to.stands;
  }

  pub reopens : (line : Event) (survived : Bool) → stops line survived ≡ course given g event → ReopensTo given sessions g event survived new told → StepsTo given sessions g event new told
  reopens line survived is to = record {
    sent = to.sent ∙ ap (sent_in given g.whole event) is;
    stands = subst (λ (one : Course). IsPlaying new given sessions (behind_course given sessions g.whole event one)) is to.stands;
  }

-- what was planned is what the line brings
pub planned_brings : (given : Environment) (g : Going) (event : Event) (planned : Planned) → IsPlannedLine given g event planned → Brings given g event planned.outcome
planned_brings given g event planned is = record { has = is.has; outcome_is = is.outcome }
