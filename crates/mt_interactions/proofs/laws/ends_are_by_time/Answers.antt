use Rattle.mt_interactions.proofs.Ending.{ends_by_time}
use Rattle.mt_interactions.proofs.laws.ends_are_by_time.Goals as goal

pub returns : goal.returns
returns c = ends_by_time
