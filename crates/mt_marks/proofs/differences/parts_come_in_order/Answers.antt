use Rattle.mt_marks.proofs.Parted.{marks_have_no_part, own_differ, parts_in_order, same_parts}
use Rattle.mt_marks.proofs.differences.parts_come_in_order.Goals as goal

pub returns-clause-same : goal.returns-clause-same
returns-clause-same c = same_parts c.what_is_told_the_same_is.ensures.codes

pub returns-clause-first : goal.returns-clause-first
returns-clause-first c = parts_in_order c.what_is_told_the_same_is.ensures.codes

pub returns-clause-own : goal.returns-clause-own
returns-clause-own c = own_differ c.what_is_told_the_same_is.ensures.codes

pub returns-clause-marks : goal.returns-clause-marks
returns-clause-marks c = marks_have_no_part c.what_is_told_the_same_is.ensures.codes
