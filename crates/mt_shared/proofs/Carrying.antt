-- What may go to another thread: a node and what it is made of. Each part owns what it names.
use denote.RattleType.{RattleType}
use denote.Param.Send.{IsSend, sendable, view_send}
use denote.Param.SendFields.{declared_send}
use Rattle.std.proofs.option.Option.TheSendSync.{the_send as option_send}
use Rattle.std.proofs.Crossing.{crosses}
use Rattle.mt_tlv.proofs.bytes.Bytes.TheSendSync.{the_send as bytes_send}
use Rattle.mt_model.proofs.listed.Listed.TheSendSync.{the_send as listed_send}
use Rattle.mt_model.proofs.tables.access.AclEntry.TheSendSync.{the_send as entry_send}
use Rattle.mt_model.proofs.tables.fabric.Fabric.TheSendSync.{the_send as fabric_send}
use Rattle.mt_model.proofs.tables.network.Network.TheSendSync.{the_send as network_send}
use Rattle.mt_model.proofs.tables.network.Armed.TheSendSync.{the_send as armed_send}
use Rattle.mt_model.proofs.texts.config.Config.TheSendSync.{the_send as config_send}
use Rattle.mt_model.proofs.texts.recording.Event.TheSendSync.{the_send as event_send}
use Rattle.mt_model.proofs.node.action.PlainDeadline.TheSendSync.{the_send as deadline_send}
use Rattle.mt_model.proofs.node.state.Version.TheSendSync.{the_send as version_send}
use Rattle.mt_model.proofs.node.state.ChangeNumber.TheSendSync.{the_send as number_send}
use Rattle.mt_model.proofs.node.state.NodeSession.TheSendSync.{the_send as session_send}
use Rattle.mt_events.proofs.numbers.Numbers.TheSendSync.{the_send as numbers_send}
use Rattle.mt_subs.proofs.subs.Subs.TheSendSync.{the_send as subs_send}
use Rattle.mt_durable.specs.declared.keeper.Keeper.{Ghosts}
use Rattle.mt_durable.specs.contracts.durable.Durable as durable
use Rattle.mt_events.specs.contracts.rings.Rings as rings
use Rattle.std.specs.contracts.snapshot.Snapshot as snapshot
use Rattle.mt_interactions.specs.contracts.deeds.Deed as deed
use Rattle.mt_interactions.specs.contracts.history.History as history
use Rattle.mt_interactions.specs.contracts.history.History.TheInside as history_inside
use Rattle.mt_interactions.specs.contracts.interactions.Interactions as interactions
use Rattle.mt_interactions.specs.contracts.interactions.Interactions.TheInside as interactions_inside
use Rattle.mt_model.specs.contracts.node.state.NodeState as state
use Rattle.mt_model.specs.contracts.rows.stored.StoredRows as stored
use Rattle.mt_node.specs.contracts.node.Node as node
use Rattle.mt_node.specs.contracts.node.Node.TheInside as node_inside
use Rattle.mt_shared.specs.contracts.entry.Call as call
use Rattle.mt_shared.specs.contracts.entry.Entry as entry
use Rattle.mt_shared.specs.contracts.entry.Stop as stop
use Rattle.mt_shared.specs.contracts.held.Held as held

pub state_send : IsSend stored.the_row → IsSend state.the_row
state_send rows = declared_send state.the_type (
  search (sendable, rows),
  (search (sendable, listed_send, entry_send), (search (sendable, listed_send, fabric_send), (search (sendable, listed_send, bytes_send), (search (sendable, listed_send, network_send), (search (sendable, option_send, armed_send), (search (sendable, listed_send, version_send), (search (sendable, listed_send, number_send), (search sendable, (search (sendable, listed_send, session_send), (search (sendable, option_send), (search sendable, (search sendable, tt)))))))))))),
)

pub node_send : IsSend state.the_row → IsSend durable.the_row → IsSend node.the_row
node_send states maps = view_send _ _ _ _ _ (declared_send node_inside.the_type (search sendable, (search (sendable, states), (search (sendable, config_send), (search (sendable, maps), tt)))))

history_send : IsSend rings.the_row → IsSend history.the_row
history_send events = view_send _ _ _ _ _ (declared_send history_inside.the_type (search (sendable, events), (search (sendable, numbers_send), tt)))

pub interactions_send : IsSend node.the_row → IsSend rings.the_row → IsSend interactions.the_row
interactions_send nodes events =
    let all = history_send events in
    view_send _ _ _ _ _ (declared_send interactions_inside.the_type (search sendable, (search (sendable, nodes), (search (sendable, all), (search (sendable, subs_send), (search (sendable, listed_send, deadline_send), tt))))))

call_send : IsSend deed.the_row → IsSend call.the_row
call_send deeds = declared_send call.the_type (search (sendable, event_send), (search (sendable, deeds), tt))

stop_send : IsSend stop.the_row
stop_send = declared_send stop.the_type (search sendable, (search sendable, (search sendable, tt)))

pub written_send : IsSend deed.the_row → IsSend entry.the_row
written_send deeds = let calls = call_send deeds in declared_send entry.the_type (search (sendable, calls), (search sendable, (search (sendable, option_send, stop_send), tt)))

pub held_send : IsSend (snapshot.the_row interactions.the_row) → IsSend interactions.the_row → IsSend entry.the_row → (K : RattleType) (keeps : Ghosts K.Denot) → IsSend K → IsSend (held.the_row K keeps)
held_send origins nodes entries K keeps keepers = declared_send (held.the_type K keeps) (
  search sendable,
  (search (sendable, origins), (search (sendable, nodes), (search (sendable, keepers), (search (sendable, crosses, entries), (search sendable, (search sendable, (search (sendable, option_send, stop_send), tt))))))),
)
