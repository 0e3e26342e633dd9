use Rattle.mt_marks.proofs.ToldBack.{same_back, same_in}
use Rattle.mt_marks.proofs.told.is_told_same.Goals as goal

pub returns : goal.returns
returns c = (
  λ same. same_in c.args.told.now c.args.other.now (c.are_parts_same.ensures.0 same),
  λ e. c.are_parts_same.ensures.1 (same_back c.args.told.now c.args.other.now e),
)
