use Rattle.std.proofs.Common.{rules}
use Rattle.mt_queue.proofs.Steps.{puts}
use Rattle.mt_queue.proofs.sending.JobSender.try_put.Goals as goal

pub send_as-requires-clause-rule : goal.send_as-requires-clause-rule
send_as-requires-clause-rule g c = (puts _ _ _ _ (search rules) (search rules), λ items views kept at. tt)
