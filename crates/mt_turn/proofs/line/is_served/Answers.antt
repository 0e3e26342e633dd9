use Rattle.std.proofs.Common.{rules}
use Rattle.mt_turn.proofs.Steps.{looks}
use Rattle.mt_turn.proofs.line.is_served.Goals as goal

pub load-requires : goal.load-requires
load-requires g c = (search rules, search rules, looks _ _ _ _ _ _ c.requires.waits.0 c.requires.waits.1 c.requires.waits.2)
