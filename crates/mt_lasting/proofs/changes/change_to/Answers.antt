use Rattle.std.proofs.Common.{◌∙◌, ap}
use Rattle.mt_durable.specs.Maps.{keys_ascend}
use Rattle.mt_lasting.proofs.changes.change_to.Goals as goal

pub from_vec-requires : goal.from_vec-requires
from_vec-requires c = ap keys_ascend c.in_ok-entries.ensures ∙ c.changes_lead_on.ensures.ascend c.args.before.now c.args.behind.now 0 0

pub returns : goal.returns
returns c = λ ceiling. c.from_vec.ensures ∙ c.in_ok-entries.ensures ∙ c.raised_ceilings_come_first.ensures.any c.args.before.now c.args.behind.now 0 ceiling
