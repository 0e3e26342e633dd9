use Rattle.std.proofs.Common.{◌∙◌, ap, sym}
use Rattle.mt_model.specs.declared.texts.recording.Event.{Event}
use Rattle.mt_play.specs.Courses.{coming, course_by}
use Rattle.mt_play.proofs.Coursing.{by_no_stop}
use Rattle.mt_play.proofs.playing.course_of.Goals as goal

pub returns-in-Stop-clause-course : goal.returns-in-Stop-clause-course
returns-in-Stop-clause-course c = c.course_of_stop.ensures.course ∙ sym (ap (λ (event : Event). course_by event c.args.changes (coming c.args.stop)) c.in-Stop.is)

pub returns-in_default-clause-course : goal.returns-in_default-clause-course
returns-in_default-clause-course c = c.course_of_line.ensures.course ∙ sym (by_no_stop c.args.event.now c.args.changes (coming c.args.stop) c.in_default.not-Stop)
