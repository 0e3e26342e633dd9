use Rattle.mt_machine.proofs.Ids.{ids_kept}
use Rattle.mt_machine.proofs.sessions_keep_their_ids.Goals as goal

pub returns : goal.returns
returns c = ids_kept
