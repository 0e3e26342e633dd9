use Rattle.mt_subs.specs.Subscriptions.{reported}
use Rattle.mt_subs.proofs.changing.report.Goals as goal

pub returns : goal.returns
returns c = c.requires.changes (reported c.args.told.time c.args.told.change c.args.told.event) c.index-subs-place.result
