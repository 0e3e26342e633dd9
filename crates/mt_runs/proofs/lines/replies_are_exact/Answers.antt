use Rattle.mt_runs.proofs.Replies.{replies_exact}
use Rattle.mt_runs.proofs.lines.replies_are_exact.Goals as goal

pub returns : goal.returns
returns c = replies_exact
