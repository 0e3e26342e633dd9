use Rattle.mt_interactions.proofs.Recorded.{starts_may_record}
use Rattle.mt_interactions.proofs.history.starts_may_record.Goals as goal

pub returns : goal.returns
returns c = starts_may_record
