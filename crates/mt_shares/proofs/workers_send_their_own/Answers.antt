use Rattle.mt_shares.proofs.Sending.{workers_send_their_own}
use Rattle.mt_shares.proofs.workers_send_their_own.Goals as goal

pub returns : goal.returns
returns c = workers_send_their_own
