use Rattle.mt_model.proofs.Fabrics.{fabrics_ascending, fabrics_in_order}
use Rattle.mt_model.proofs.laws.fabrics_are_in_order.Goals as goal

pub returns-clause-ascending : goal.returns-clause-ascending
returns-clause-ascending c = fabrics_ascending

pub returns-clause-in_order : goal.returns-clause-in_order
returns-clause-in_order c = fabrics_in_order
