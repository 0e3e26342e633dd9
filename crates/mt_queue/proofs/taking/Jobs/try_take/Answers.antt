use Rattle.std.proofs.Common.{rules}
use Rattle.mt_queue.proofs.Steps.{takes}
use Rattle.mt_queue.proofs.taking.Jobs.try_take.Goals as goal

pub recv_as-requires-clause-rule : goal.recv_as-requires-clause-rule
recv_as-requires-clause-rule g c = (takes _ _ (search rules), λ items views kept at. tt)
