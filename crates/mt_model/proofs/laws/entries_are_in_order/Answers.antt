use Rattle.mt_model.proofs.Fabrics.{entries_ascending, entries_in_order}
use Rattle.mt_model.proofs.laws.entries_are_in_order.Goals as goal

pub returns-clause-ascending : goal.returns-clause-ascending
returns-clause-ascending c = entries_ascending

pub returns-clause-in_order : goal.returns-clause-in_order
returns-clause-in_order c = entries_in_order
