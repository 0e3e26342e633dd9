use Rattle.std.proofs.Common.{rules}
use Rattle.mt_queue.proofs.Steps.{begins, parts}
use Rattle.mt_queue.proofs.sending.queue.Goals as goal

pub bounded_with-requires-clause-rule : goal.bounded_with-requires-clause-rule
bounded_with-requires-clause-rule c = begins

pub another-other-requires-clause-rule : goal.another-other-requires-clause-rule
another-other-requires-clause-rule c = parts _ _ (search rules) (search rules)
