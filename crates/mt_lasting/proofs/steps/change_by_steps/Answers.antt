use Rattle.std.proofs.Common.{◌∙◌, ap, None}
use Rattle.mt_durable.specs.Maps.{keys_ascend}
use Rattle.mt_machine.specs.Effects.{after_all}
use Rattle.mt_lasting.proofs.steps.change_by_steps.Goals as goal

pub from_vec-requires : goal.from_vec-requires
from_vec-requires c =
    let s = c.args.state.now in
    ap keys_ascend (c.in_ok-entries.ensures 0) ∙ c.changes_lead_on.ensures.ascend s (after_all None c.args.steps.now s) 0 0

pub returns : goal.returns
returns c = λ ceiling. c.from_vec.ensures ∙ c.in_ok-entries.ensures ceiling
