use Rattle.mt_subs.proofs.Noting.{noted_stays, unchanged_is}
use Rattle.mt_subs.proofs.laws.changes_stay_in_order.Goals as goal

pub returns-clause-unchanged : goal.returns-clause-unchanged
returns-clause-unchanged c = unchanged_is

pub returns-clause-noted : goal.returns-clause-noted
returns-clause-noted c = noted_stays
