use Rattle.std.proofs.Common.{◌∙◌, option_copied, sym}
use Rattle.mt_commission.proofs.Owner.{owner_known}
use Rattle.mt_commission.proofs.network_commissioning.is_owner.Goals as goal

pub returns : goal.returns
returns c = c.is_armed_by.ensures ∙ sym (owner_known c.args.fabric (option_copied c.args.armed))
