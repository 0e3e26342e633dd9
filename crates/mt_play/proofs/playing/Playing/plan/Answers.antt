use Rattle.std.proofs.Common.{◌≡◌, ◌∙◌, Bool, Option, ap, subst}
use Rattle.std.specs.Prelude.{IfSome}
use Rattle.mt_whole.specs.mt_ledger.Ledger.{Ledger}
use Rattle.mt_whole.specs.mt_machine.Environment.{Environment}
use Rattle.mt_whole.specs.mt_machine.State.{State}
use Rattle.mt_whole.specs.mt_runs.Course.{Stop}
use Rattle.mt_whole.specs.Plan.{IsPlan, IsPlanned, given_to}
use Rattle.mt_play.specs.Courses.{coming, course_by, course_in}
use Rattle.mt_play.specs.Plays.{has_change}
use Rattle.mt_play.proofs.Coursing.{course_planned, stops_in_commit}
use Rattle.mt_play.proofs.playing.Playing.plan.Goals as goal

pub returns-clause-made : goal.returns-clause-made
returns-clause-made c =
    let event = c.args.event.now in
    let outcome = c.in_ok-outcome.outcome in
    let stop = coming c.args.self.now.stop in
    let course : course_in c.course_of-course.result ≡ course_by event (has_change outcome) stop = c.course_of-course.ensures.course ∙ ap (λ (changes : Bool). course_by event changes stop) c.changes.ensures in
    record {
      outcome = c.in_ok-outcome.ensures.planned;
      stops = stops_in_commit event outcome stop c.course_of-course.result c.in_ok-outcome.ensures.goes course c.course_of-course.ensures.told;
      told = c.course_of-course.ensures.told;
    }

pub returns-clause-planned : goal.returns-clause-planned
returns-clause-planned c given sessions g is =
    let self = c.args.self.now in
    let event = c.args.event.now in
    let outcome = c.in_ok-outcome.outcome in
    let by : given_to self.whole self.verdicts.roots self.verdicts.csrs self.verdicts.joins ≡ given = c.requires.given ∙ is.by in
    let plan : IfSome outcome (IsPlan given g.whole event) = subst (λ (e : Environment). IfSome outcome (IsPlan e g.whole event)) by (c.in_ok-outcome.ensures.plan g.whole is.whole) in
    let planned : IfSome outcome (IsPlanned g.whole.state g.whole.ledger) =
    subst (λ (x : State × Ledger). IfSome outcome (IsPlanned x.0 x.1)) (λ i. (is.whole.state i, is.whole.ledger i)) c.in_ok-outcome.ensures.planned in
    record {
      course =
          c.course_of-course.ensures.course
          ∙ ap (λ (changes : Bool). course_by event changes (coming self.stop)) c.changes.ensures
          ∙ ap (λ (stop : Option Stop). course_by event (has_change outcome) stop) is.stop
          ∙ course_planned c.lines_make_calls_where_what_lasts_changes.ensures.none c.lines_make_calls_where_what_lasts_changes.ensures.four c.commits_lead_on.ensures given g event outcome c.in_ok-outcome.ensures.goes planned plan;
      has = c.in_ok-outcome.ensures.goes;
      outcome = plan;
    }
