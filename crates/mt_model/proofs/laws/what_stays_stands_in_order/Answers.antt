use Rattle.mt_model.proofs.Setting.{ascending_filter, entries_filter}
use Rattle.mt_model.proofs.laws.what_stays_stands_in_order.Goals as goal

pub returns-clause-rows : goal.returns-clause-rows
returns-clause-rows c = ascending_filter

pub returns-clause-entries : goal.returns-clause-entries
returns-clause-entries c = entries_filter
