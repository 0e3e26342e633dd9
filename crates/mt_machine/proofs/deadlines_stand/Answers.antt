use Rattle.mt_machine.proofs.DeadlinesStand.{actions_keep, lines_keep}
use Rattle.mt_machine.proofs.deadlines_stand.Goals as goal

pub returns-clause-lines : goal.returns-clause-lines
returns-clause-lines c = lines_keep

pub returns-clause-actions : goal.returns-clause-actions
returns-clause-actions c = actions_keep
