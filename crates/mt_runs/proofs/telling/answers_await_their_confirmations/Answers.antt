use Rattle.mt_runs.proofs.Awaited as awaited
use Rattle.mt_runs.proofs.telling.answers_await_their_confirmations.Goals as goal

pub returns-clause-replies : goal.returns-clause-replies
returns-clause-replies c = awaited.replies_await c.replies_await_their_confirmations.ensures

pub returns-clause-confirmations : goal.returns-clause-confirmations
returns-clause-confirmations c = awaited.confirmations_await c.replies_await_their_confirmations.ensures
