use Rattle.mt_fabrics.proofs.Gaps.{is_least}
use Rattle.mt_fabrics.proofs.laws.the_index_is_the_least.Goals as goal

pub returns : goal.returns
returns c = is_least
