use Rattle.mt_model.proofs.Fabrics.{order_sees}
use Rattle.mt_model.proofs.laws.in_order_sees.Goals as goal

pub returns : goal.returns
returns c = order_sees
