use Rattle.std.proofs.Common.{◌≡◌, ◌∙◌, OnErr, Option, ap, subst, sym}
use Rattle.mt_model.specs.declared.texts.recording.Event.TheVariants as events
use Rattle.mt_whole.specs.mt_runs.Course.{course, goes, stops, survives}
use Rattle.mt_whole.specs.declared.outcome.WholeOutcome.{WholeOutcome}
use Rattle.mt_play.specs.Courses.{IsTold, coming, course_in, stop_in}
use Rattle.mt_play.specs.Plays.{Brings, GoesTo, HasChangeOrNot, IsLeft, ReopensTo, StepsTo}
use Rattle.mt_play.specs.declared.course.Course as code
use Rattle.mt_play.proofs.Coursing.{goes_on, if_ok_then, on_err, planned_brings, reopens}
use Rattle.mt_play.proofs.playing.Playing.carry_out.Goals as goal

pub returns-in-Goes-clause-steps : goal.returns-in-Goes-clause-steps
returns-in-Goes-clause-steps c given sessions g event is line =
    let planned = c.args.planned in
    let stop = coming c.in-Goes.stop in
    let new = c.go_on.new.self in
    let outcome : planned.outcome ≡ c.into_parts-outcome.result.0 = sym (ap (λ (both : Option WholeOutcome × code.Course). both.0) c.into_parts-outcome.ensures) in
    let made : planned.course ≡ c.into_parts-outcome.result.1 = sym (ap (λ (both : Option WholeOutcome × code.Course). both.1) c.into_parts-outcome.ensures) in
    let becomes : goes stop ≡ course given g event = sym (ap course_in (made ∙ c.in-Goes.is)) ∙ line.course in
    let brings = subst (Brings given g event) outcome (planned_brings given g event planned line) in
    if_ok_then c.go_on.result (GoesTo given sessions g event stop new) (StepsTo given sessions g event new)
    (λ told to. goes_on given sessions g event new told stop becomes to)
    (c.go_on.ensures.goes given sessions g event is brings)

pub returns-in-Stops-clause-steps : goal.returns-in-Stops-clause-steps
returns-in-Stops-clause-steps c given sessions g event is line =
    let planned = c.args.planned in
    let by = c.in-Stops.by in
    let survived = c.in-Stops.survives in
    let new = c.stop_in.new.self in
    let outcome : planned.outcome ≡ c.into_parts-outcome.result.0 = sym (ap (λ (both : Option WholeOutcome × code.Course). both.0) c.into_parts-outcome.ensures) in
    let made : planned.course ≡ c.into_parts-outcome.result.1 = sym (ap (λ (both : Option WholeOutcome × code.Course). both.1) c.into_parts-outcome.ensures) in
    let told = subst IsTold (made ∙ c.in-Stops.is) c.requires.made.told in
    let becomes : stops (events.Stop by.asked by.fate) (survives (stop_in by)) ≡ course given g event =
    ap (stops (events.Stop by.asked by.fate)) (sym told.1) ∙ sym (ap course_in (made ∙ c.in-Stops.is)) ∙ line.course in
    let brings = subst (Brings given g event) outcome (planned_brings given g event planned line) in
    if_ok_then c.stop_in.result (ReopensTo given sessions g event (survives (stop_in by)) new) (StepsTo given sessions g event new)
    (λ sent to. reopens given sessions g event new sent (events.Stop by.asked by.fate) (survives (stop_in by)) becomes to)
    (c.stop_in.ensures.stops given sessions g event is brings)

pub returns-in-Goes-clause-left : goal.returns-in-Goes-clause-left
returns-in-Goes-clause-left c =
    let planned = c.args.planned in
    let old = c.args.self.now.store in
    let new = c.go_on.new.self.store in
    let outcome : planned.outcome ≡ c.into_parts-outcome.result.0 = sym (ap (λ (both : Option WholeOutcome × code.Course). both.0) c.into_parts-outcome.ensures) in
    let made : planned.course ≡ c.into_parts-outcome.result.1 = sym (ap (λ (both : Option WholeOutcome × code.Course). both.1) c.into_parts-outcome.ensures) in
    subst (λ (x : code.Course). OnErr c.go_on.result (IsLeft x planned.outcome old new)) (sym (made ∙ c.in-Goes.is))
    (subst (λ (o : Option WholeOutcome). OnErr c.go_on.result (HasChangeOrNot o old new)) (sym outcome) c.go_on.ensures.left)

pub returns-in-Stops-clause-left : goal.returns-in-Stops-clause-left
returns-in-Stops-clause-left c =
    let planned = c.args.planned in
    let made : planned.course ≡ c.into_parts-outcome.result.1 = sym (ap (λ (both : Option WholeOutcome × code.Course). both.1) c.into_parts-outcome.ensures) in
    subst (λ (x : code.Course). OnErr c.stop_in.result (IsLeft x planned.outcome c.args.self.now.store c.stop_in.new.self.store)) (sym (made ∙ c.in-Stops.is))
    (on_err c.stop_in.result (Unit {0}) tt)
