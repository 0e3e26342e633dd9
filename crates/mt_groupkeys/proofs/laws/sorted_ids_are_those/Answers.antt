use Rattle.mt_groupkeys.proofs.Sorted.{sorted_ascend, sorted_count}
use Rattle.mt_groupkeys.proofs.laws.sorted_ids_are_those.Goals as goal

pub returns-clause-ascend : goal.returns-clause-ascend
returns-clause-ascend c = sorted_ascend

pub returns-clause-those : goal.returns-clause-those
returns-clause-those c = sorted_count
