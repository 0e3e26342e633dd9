-- Which lines make calls of the disk: those that change what lasts, and no other.
use Rattle.std.proofs.Common.{◌≡◌, ◌≢◌, Bool, true, false, List, [], ◌∷◌, refl, ap}
use Rattle.mt_durable.specs.declared.durable.Entry.{Entry}
use Rattle.mt_regained.specs.mt_lasting.Changes.{change_between}
use Rattle.mt_regained.specs.mt_lasting.Laws.{EmptyWhereEqual}
use Rattle.mt_model.specs.declared.texts.recording.Event.{Event}
use Rattle.mt_model.specs.declared.texts.recording.Event.TheVariants as events
use Rattle.mt_machine.specs.Environment.{Environment}
use Rattle.mt_runs.specs.Course.{Going, changes_what_lasts, course, course_of_line, says_any}
use Rattle.mt_runs.specs.Laws.{LinesThatChangeMakeCalls, LinesThatKeepMakeNone}
use Rattle.mt_runs.specs.Lines.{is_stop, next}
use Rattle.mt_runs.specs.Reopening.{ceiling_of}
use Rattle.mt_runs.proofs.Absent.{contradiction}

some_said : (change : List Entry) → change ≢ [] → says_any change ≡ true
some_said [] some = absurd (some refl)
some_said (entry ∷ entries) some = refl

-- what becomes of a line, by whether it changes what lasts
course_by : (given : Environment) (g : Going) (e : Event) → is_stop e ≡ false → (changes : Bool) → changes_what_lasts given g.whole e ≡ changes → course given g e ≡ course_of_line changes g.stop
course_by given g (events.Ask ms fabric node cats opcode payload) goes_on changes is = ap (λ (b : Bool). course_of_line b g.stop) is
course_by given g (events.Datagram ms from bytes) goes_on changes is = ap (λ (b : Bool). course_of_line b g.stop) is
course_by given g (events.Tick ms) goes_on changes is = ap (λ (b : Bool). course_of_line b g.stop) is
course_by given g (events.Report ms fabric subscription) goes_on changes is = ap (λ (b : Bool). course_of_line b g.stop) is
course_by given g (events.Resend ms session) goes_on changes is = ap (λ (b : Bool). course_of_line b g.stop) is
course_by given g (events.Stop calls fate) goes_on changes is = absurd (contradiction goes_on)

module _ (empty : EmptyWhereEqual) where
  pub keep : LinesThatKeepMakeNone
  keep given g e goes_on same =
      let v = next given g.whole e in
      course_by given g e goes_on false (ap says_any ((empty g.whole.state.node v.state.node (ceiling_of g.whole) (ceiling_of v)).1 same))

  pub change : LinesThatChangeMakeCalls
  change given g e goes_on other =
      let v = next given g.whole e in
      course_by given g e goes_on true
      (some_said (change_between g.whole.state.node (ceiling_of g.whole) v.state.node (ceiling_of v)) (λ none. other ((empty g.whole.state.node v.state.node (ceiling_of g.whole) (ceiling_of v)).0 none)))
