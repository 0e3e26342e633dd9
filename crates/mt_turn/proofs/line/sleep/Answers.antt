use Rattle.std.proofs.Common.{rules}
use Rattle.mt_turn.proofs.Steps.{rings}
use Rattle.mt_turn.proofs.line.sleep.Goals as goal

pub store-requires : goal.store-requires
store-requires g c = (search rules, search rules, rings _ _ _ _ _ _ _ _ (search rules))
