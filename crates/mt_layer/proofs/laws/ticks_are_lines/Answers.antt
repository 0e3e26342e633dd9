use Rattle.mt_layer.proofs.Lines.{ticks}
use Rattle.mt_layer.proofs.laws.ticks_are_lines.Goals as goal

pub returns : goal.returns
returns c = ticks c.ticks_let_the_failsafe_expire.ensures.gone c.one_leaves.ensures.tick
