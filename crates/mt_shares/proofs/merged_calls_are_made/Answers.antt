use Rattle.mt_shares.proofs.Made.{merged_calls_are_made}
use Rattle.mt_shares.proofs.merged_calls_are_made.Goals as goal

pub returns : goal.returns
returns c = merged_calls_are_made
