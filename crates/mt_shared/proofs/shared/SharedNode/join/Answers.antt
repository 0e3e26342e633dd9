use denote.Exit.{no}
use denote.Param.{param}
use denote.Param.Send.{arg_send, param_send}
use Rattle.std.proofs.Crossing.{Box-send}
use Rattle.mt_shared.specs.contracts.held.Held as held
use Rattle.mt_shared.proofs.Carrying.{held_send}
use Rattle.mt_shared.proofs.shared.SharedNode.join.Goals as goal

pub join-requires-send-T : goal.join-requires-send-T
join-requires-send-T g c κs within = param_send 0 _ (arg_send _ no _ (Box-send (held.the_row (param 0 g.row.K) g.K.Keeper) (held_send c.origins_cross.ensures c.interactions_cross.ensures c.entries_cross.ensures (param 0 g.row.K) g.K.Keeper c.type_bounds.send-K)))
