use Rattle.mt_rounds.proofs.Follow.{sessions}
use Rattle.mt_rounds.proofs.sessions_follow.Goals as goal

pub returns : goal.returns
returns c = sessions
