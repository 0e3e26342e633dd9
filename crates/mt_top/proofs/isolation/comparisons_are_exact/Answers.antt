use Rattle.mt_top.proofs.Compared.{compared_exactly}
use Rattle.mt_top.proofs.isolation.comparisons_are_exact.Goals as goal

pub returns : goal.returns
returns c = compared_exactly c.equal_marks_do_not_differ.ensures.alike c.equal_marks_do_not_differ.ensures.first
