use Rattle.mt_asking.proofs.Exact.{shown_exactly}
use Rattle.mt_asking.proofs.laws.shown_is_exact.Goals as goal

pub returns : goal.returns
returns c = shown_exactly c.items_tell_of_their_datagrams.ensures c.sealed_messages_are_shown.ensures
