use Rattle.mt_events.proofs.Merging.{any_merged, in_order}
use Rattle.mt_events.proofs.laws.events_are_told_in_order.Goals as goal

pub returns-clause-of_both : goal.returns-clause-of_both
returns-clause-of_both c = any_merged

pub returns-clause-in_order : goal.returns-clause-in_order
returns-clause-in_order c = in_order
