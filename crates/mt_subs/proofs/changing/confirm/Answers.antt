use Rattle.mt_subs.specs.Subscriptions.{confirmed}
use Rattle.mt_subs.proofs.changing.confirm.Goals as goal

pub returns : goal.returns
returns c = c.requires.changes confirmed c.index-subs-place.result
