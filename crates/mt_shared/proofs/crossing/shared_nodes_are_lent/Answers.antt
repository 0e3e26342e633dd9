use denote.Exit.{no}
use denote.Param.{arg, param}
use denote.Param.Send.{arg_send, arg_sync, param_send, param_sync, sendable, view_sync}
use denote.Param.SendFields.{declared_sync}
use Rattle.mt_shared.specs.contracts.shared.SharedNode as shared
use Rattle.mt_shared.specs.contracts.shared.SharedNode.TheInside as inside
use Rattle.std.proofs.Crossing.{Box-send}
use Rattle.mt_shared.specs.contracts.held.Held as held
use Rattle.mt_shared.proofs.Carrying.{held_send}
use Rattle.mt_shared.proofs.crossing.shared_nodes_are_lent.Goals as goal

pub locks_are_lent-requires-send-T : goal.locks_are_lent-requires-send-T
locks_are_lent-requires-send-T g c κs within = param_send 0 _ (arg_send _ no _ (Box-send (held.the_row (param 0 g.row.K) g.K.Keeper) (held_send c.origins_cross.ensures c.interactions_cross.ensures c.entries_cross.ensures (param 0 g.row.K) g.K.Keeper c.type_bounds.send-K)))

pub lends-requires-sync-T : goal.lends-requires-sync-T
lends-requires-sync-T g c κs within =
    let lock = c.locks_are_lent.ensures in
    let origins = c.origins_are_lent.ensures in
    let verdicts = c.type_bounds.sync-V in
    param_sync 0 (arg _ no (shared.the_row (param 0 g.row.K) (param 1 g.row.V) g.K.Keeper g.V.Verdicts))
    (arg_sync _ no _ (view_sync _ _ _ _ _ (declared_sync (inside.the_type (param 0 g.row.K) (param 1 g.row.V) g.K.Keeper g.V.Verdicts) (search (sendable, lock), (search (sendable, verdicts), (search (sendable, origins), tt))))))
