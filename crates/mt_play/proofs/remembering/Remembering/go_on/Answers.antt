use Rattle.std.proofs.Common.{◌≡◌, ap, map, subst, sym, ◌∙◌}
use Rattle.std.specs.Prelude.{IfSome}
use Rattle.std.proofs.lemmas.Result.{IfOk-weaker}
use Rattle.mt_whole.specs.mt_machine.Environment.{Environment}
use Rattle.mt_whole.specs.mt_machine.State.{State}
use Rattle.mt_whole.specs.mt_ledger.Ledger.{Ledger}
use Rattle.mt_whole.specs.mt_runs.Course.{stepped}
use Rattle.mt_whole.specs.mt_runs.Lines.{talks_behind}
use Rattle.mt_whole.specs.mt_runs.Whole.{Whole}
use Rattle.mt_whole.specs.mt_marks.Noted.{noted_if}
use Rattle.mt_whole.specs.mt_marks.Remembered.{remembered}
use Rattle.mt_whole.specs.Plan.{IsPlanned}
use Rattle.mt_play.specs.Plays.{StepsTo}
use Rattle.mt_play.specs.Remembers.{RemembersTo}
use Rattle.mt_play.proofs.Begins.{goes_next}
use Rattle.mt_play.proofs.Stepping.{told_behind}
use Rattle.mt_play.proofs.remembering.Remembering.go_on.Goals as goal

pub returns-clause-steps : goal.returns-clause-steps
returns-clause-steps c given sessions g is plan =
    let self = c.args.self.now in
    let event = c.args.event.now in
    let outcome = c.args.planned.outcome in
    let whole = self.playing.whole in
    let w = g.whole in
    let note = c.in_ok-note.note in
    let new = c.carry_out.new.self in
    let at = is.playing.whole in
    let made =
    subst (λ (l : Ledger). IfSome outcome (IsPlanned w.state l)) at.ledger (subst (λ (s : State). IfSome outcome (IsPlanned s whole.interactions.ledger)) at.state c.requires.made.outcome) in
    let adds : noted_if note (map remembered w.talks) ≡ map remembered (talks_behind given w event) =
    subst (λ (by : Environment). noted_if note (map remembered w.talks) ≡ map remembered (talks_behind by w event)) (c.requires.journal.given ∙ is.playing.by) (c.in_ok-note.ensures w at) in
    let told : c.note_line.new.told ≡ map remembered (stepped given sessions g event).whole.talks =
    c.in_ok-note_line.ensures
    ∙ told_behind c.closed_sessions_are_those_that_end.ensures.talks c.stops_leave_all.ensures given w event outcome plan.has made plan.outcome note self.told is.told adds
    ∙ ap (λ (v : Whole). map remembered v.talks) (sym (goes_next given sessions g event c.args.planned.course plan.course c.requires.goes)) in
    IfOk-weaker c.carry_out.result (StepsTo given sessions g event new) (RemembersTo given sessions g event (record { playing = new; told = c.note_line.new.told }))
    (λ sent steps. record { sent = steps.sent; stands = record { playing = steps.stands; told = told } })
    (c.carry_out.ensures.steps given sessions g event is.playing plan)
