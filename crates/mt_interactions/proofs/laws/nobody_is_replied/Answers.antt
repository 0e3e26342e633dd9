use Rattle.mt_interactions.proofs.Unheard.{unheard}
use Rattle.mt_interactions.proofs.laws.nobody_is_replied.Goals as goal

pub returns : goal.returns
returns c = unheard
