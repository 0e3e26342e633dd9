use Rattle.mt_talk.proofs.Awaited.{replies_await}
use Rattle.mt_talk.proofs.laws.replies_await_their_confirmations.Goals as goal

pub returns : goal.returns
returns c = replies_await c.written_is_read.ensures
