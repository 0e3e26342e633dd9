use Rattle.std.proofs.Common.{rules}
use Rattle.mt_queue.proofs.Steps.{joins, compares}
use Rattle.mt_queue.proofs.sending.JobSender.compare.Goals as goal

pub absorb-requires-clause-rule : goal.absorb-requires-clause-rule
absorb-requires-clause-rule c = joins _ _ _ _ (search rules) (search rules)

pub learn_as-requires-clause-rule : goal.learn_as-requires-clause-rule
learn_as-requires-clause-rule c = compares _ _ (search rules) (search rules)
