use denote.Param.Send.{IsSend, sendable, view_send}
use denote.Param.SendFields.{declared_send}
use Rattle.std.proofs.Crossing.{crosses}
use Rattle.mt_durable.specs.contracts.durable.Durable as durable
use Rattle.mt_durable.specs.contracts.list_keeper.ListKeeper.TheInside as keeper_inside
use Rattle.cases_node.proofs.crossing.keepers_cross.Goals as goal

pub returns : goal.returns
returns c =
    let maps : IsSend durable.the_row = record { owned = c.crosses.ensures.owned; leaving = λ k d w. tt } in
    view_send _ _ _ _ _ (declared_send keeper_inside.the_type (search sendable, (search (sendable, maps), (search (sendable, crosses), (search sendable, (search sendable, (search sendable, tt)))))))
