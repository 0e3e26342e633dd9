use Rattle.mt_marks.proofs.Standing.{marks_of_marked}
use Rattle.mt_marks.proofs.differences.marked_events_have_the_marks.Goals as goal

pub returns : goal.returns
returns c = marks_of_marked
