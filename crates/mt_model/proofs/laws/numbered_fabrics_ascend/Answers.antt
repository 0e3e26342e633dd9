use Rattle.mt_model.proofs.Fabrics.{numbered_ascend}
use Rattle.mt_model.proofs.laws.numbered_fabrics_ascend.Goals as goal

pub returns : goal.returns
returns c = numbered_ascend
