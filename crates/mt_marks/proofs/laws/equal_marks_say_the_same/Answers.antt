use Rattle.std.proofs.Common.{ap}
use Rattle.mt_marks.specs.Seen.{seen_in}
use Rattle.mt_marks.proofs.Back.{same_back}
use Rattle.mt_marks.proofs.laws.equal_marks_say_the_same.Goals as goal

pub returns : goal.returns
returns c = λ one other. (λ e. ap seen_in e, same_back one other)
