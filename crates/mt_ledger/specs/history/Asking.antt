-- What is answered of events: to a read that names them, behind the attributes that it asks for.
use Rattle.std.specs.Prelude.{ℕ, List, [], ◌++◌, Option, Some, None}
use Rattle.mt_im.specs.declared.fault.ImFault.{ImFault}
use Rattle.mt_model.specs.declared.messages.message.Happened.{Happened}
use Rattle.mt_model.specs.declared.messages.message.Item.{Item}
use Rattle.mt_model.specs.declared.messages.message.Reply.{Reply}
use Rattle.mt_model.specs.declared.messages.message.Reply.TheVariants as replies
use Rattle.mt_model.specs.declared.messages.message.Request.{Request}
use Rattle.mt_model.specs.declared.messages.message.Request.TheVariants as requests
use Rattle.mt_model.specs.declared.node.action.Action.{Action}
use Rattle.mt_model.specs.declared.node.action.Action.TheVariants.{Ask}
use Rattle.mt_model.specs.declared.node.state.NodeState.{NodeState}
use Rattle.mt_model.specs.declared.tables.access.AclEntry.{AclEntry}
use Rattle.mt_model.specs.declared.tables.access.Actor.{Actor}
use Rattle.mt_events.specs.Reading.{asking}
use Rattle.mt_events.specs.Telling.{answered}
use Rattle.mt_machine.specs.Environment.{Environment}
use Rattle.mt_machine.specs.Lines.{line_reply}
use Rattle.mt_machine.specs.State.{State}
use Rattle.mt_machine.specs.Step.{asker, reply_of}
use Rattle.mt_ledger.specs.history.History.{History}
use Rattle.std.specs.Prelude.{Result, Ok, Err}

-- The events that a request of an actor asks for, where these are the entries of all fabrics.
abbrev pub events_asked : List AclEntry → List (List Happened) → Actor → Request → List Item
events_asked entries rings actor (requests.Read paths wanted minimum filtered versions) = answered (asking entries actor minimum wanted) rings
events_asked entries rings actor request = []

-- A report tells them behind its attributes; what refuses the whole request tells none.
abbrev pub with_events : List Item → Reply → Reply
with_events events (replies.Report subscription items suppress) = replies.Report subscription (items ++ events) suppress
with_events events reply = reply

-- WHAT IS REPLIED to whoever is taken as asking, the events among it.

abbrev pub events_for : NodeState → History → Option Actor → Request → List Item
events_for s h None request = []
events_for s h (Some actor) request = events_asked s.entries h.rings actor request

abbrev pub full_reply : Environment → NodeState → History → Action → ℕ → Reply
full_reply given s h (Ask actor request deadline) now = with_events (events_for s h (asker s actor) request) (reply_of given s (Ask actor request deadline) now)
full_reply given s h action now = reply_of given s action now

-- and on a line of a plain actor
abbrev pub full_line_reply : Environment → State → History → Actor → Actor → ℕ → Result Request ImFault → Reply
full_line_reply given s h actor asking ms (Ok request) = with_events (events_asked s.node.entries h.rings asking request) (line_reply given s actor asking ms (Ok request))
full_line_reply given s h actor asking ms (Err fault) = line_reply given s actor asking ms (Err fault)
