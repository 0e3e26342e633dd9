-- What a line is answered: a read by the items of its paths and then the events that it asks for, a write by a status of each of its items,
-- a command by what its check comes to.
use Rattle.std.specs.Prelude.{◌≡◌, ℕ, ◌++◌, Bool, true, false, List, [], ◌∷◌, Option, Some, None, Result, Ok, Err, flat_map, is_some, if◌then◌else◌}
use Rattle.std.specs.List.{list_any}
use Rattle.mt_tlv.specs.declared.value.Value.{Value}
use Rattle.mt_events.specs.Reading.{asking}
use Rattle.mt_events.specs.Telling.{answered}
use Rattle.mt_im.specs.Reading.{request_in}
use Rattle.mt_invoke.specs.Checking.{checked, has_form}
use Rattle.mt_meta.specs.Places.{is_not_global}
use Rattle.mt_meta.specs.declared.meta.CommandMeta.{CommandMeta}
use Rattle.mt_model.specs.messages.Blocks.{names_item, place_named}
use Rattle.mt_model.specs.messages.Effects.{refused_at}
use Rattle.mt_model.specs.rows.Seen.{Seen}
use Rattle.mt_model.specs.declared.messages.message.Item.{Item}
use Rattle.mt_model.specs.declared.messages.message.Path.{Path}
use Rattle.mt_model.specs.declared.messages.message.Reply.{Reply}
use Rattle.mt_model.specs.declared.messages.message.Reply.TheVariants as replies
use Rattle.mt_model.specs.declared.messages.message.Request.{Request}
use Rattle.mt_model.specs.declared.messages.message.Request.TheVariants as requests
use Rattle.mt_model.specs.declared.messages.message.WriteItem.{WriteItem}
use Rattle.mt_model.specs.declared.messages.status.Status.{Status}
use Rattle.mt_model.specs.declared.messages.status.Status.TheVariants.{InvalidCommand, Success}
use Rattle.mt_model.specs.declared.node.action.NodeStep.{NodeStep}
use Rattle.mt_model.specs.declared.node.state.NodeState.{NodeState}
use Rattle.mt_model.specs.declared.node.state.Version.{Version}
use Rattle.mt_model.specs.declared.rows.place.Place.{Place}
use Rattle.mt_model.specs.declared.tables.access.Actor.{Actor}
use Rattle.mt_model.specs.declared.texts.recording.Event.TheVariants.{Ask}
use Rattle.mt_read.specs.Reading.{path_items}
use Rattle.mt_write.specs.Writing.{item_step, status_item}
use Rattle.mt_machine.specs.Commands.{carried_out}
use Rattle.mt_machine.specs.Environment.{Environment}
use Rattle.mt_machine.specs.Lines.{deadline_of, line_actor, sent_as}
use Rattle.mt_machine.specs.Observation.{observation}
use Rattle.mt_machine.specs.Step.{asker, at_time, is_late, is_untimely, session_actor}
use Rattle.mt_ledger.specs.Asking.{full_line_reply}
use Rattle.mt_ledger.specs.Ledger.{Ledger}
use Rattle.mt_runs.specs.Datagrams.{reply_over}
use Rattle.mt_runs.specs.Lines.{sent}
use Rattle.mt_runs.specs.Whole.{Whole}

-- what the asker's fabric sees
abbrev pub seen_of : NodeState → Actor → Seen
seen_of s asker = (observation asker.fabric s).seen

-- the items of each path, in their order, and then the events
abbrev pub items_of_read : NodeState → Ledger → Actor → List Path → List Path → ℕ → Bool → List Version → List Item
items_of_read s l asker paths wanted minimum filtered versions =
    flat_map (path_items (seen_of s asker) asker filtered versions) paths ++ answered (asking s.entries asker minimum wanted) l.history.rings

-- The status of an item of a write, where these steps were made before it, and the steps behind it.

abbrev pub status_of : Result NodeStep Status → Status
status_of (Ok step) = Success
status_of (Err status) = status

abbrev pub steps_behind : List NodeStep → Result NodeStep Status → List NodeStep
steps_behind steps (Ok step) = steps ++ step ∷ []
steps_behind steps (Err status) = steps

-- a status for each item, in their order
abbrev pub statuses_of : Seen → Actor → Bool → List NodeStep → List WriteItem → List Item
statuses_of seen asker timed steps [] = []
statuses_of seen asker timed steps (item ∷ items) =
    let made = item_step seen asker timed steps item (place_named item.path) in
    status_item item.path (status_of made) ∷ statuses_of seen asker timed (steps_behind steps made) items

-- what a command comes to, where this is what its check says
abbrev pub command_reply : Environment → NodeState → Actor → Place → Value → Result CommandMeta Status → Reply
command_reply given s asker command fields (Err status) = (refused_at command status).reply
command_reply given s asker command fields (Ok meta) =
    if has_form command fields then (carried_out given (observation asker.fabric s) asker command fields).reply else (refused_at command InvalidCommand).reply

-- Whether requests are answered so by an actor's node at its time, where a deadline stood for the request or none did. It is in time.
pub record AnswersExactly (given : Environment) (s : NodeState) (l : Ledger) (asker : Actor) (stood : Bool) (reply : Request → Reply) : Type 0 where
  -- a read that is not refused as a whole
  pub reads : (paths : List Path) (wanted : List Path) (minimum : ℕ) (filtered : Bool) (versions : List Version) → list_any names_item paths ≡ false → list_any is_not_global paths ≡ false
      → reply (requests.Read paths wanted minimum filtered versions) ≡ replies.Report None (items_of_read s l asker paths wanted minimum filtered versions) true
  -- a write that is answered
  pub writes : (timed : Bool) (items : List WriteItem) → is_untimely stood timed ≡ false
      → reply (requests.Write false timed items) ≡ replies.Written (statuses_of (seen_of s asker) asker timed [] items)
  -- a command that is answered
  pub commands : (timed : Bool) (command : Place) (fields : Value) → is_untimely stood timed ≡ false
      → reply (requests.Invoke false timed command fields) ≡ command_reply given s asker command fields (checked (seen_of s asker) asker command timed)

-- So it is with a plain actor who is taken as asking, and over a session that is live.

abbrev pub PlainRepliesAreExact : Type 0
PlainRepliesAreExact = (given : Environment) (w : Whole) (actor asking : Actor) (ms : ℕ) → asker w.state.node actor ≡ Some asking → is_late (deadline_of asking w.state.deadlines) ms ≡ false
    → AnswersExactly given (at_time ms w.state.node) w.ledger asking (is_some (deadline_of asking w.state.deadlines)) (λ (request : Request). full_line_reply given w.state w.ledger actor asking ms (Ok request))

abbrev pub SessionRepliesAreExact : Type 0
SessionRepliesAreExact = (given : Environment) (w : Whole) (id : ℕ) (asking : Actor) (timed : Option ℕ) (ms : ℕ) → session_actor w.state.node id ≡ Some asking → is_late timed ms ≡ false
    → AnswersExactly given (at_time ms w.state.node) w.ledger asking (is_some timed) (λ (request : Request). reply_over given w.state.node w.ledger id timed ms (Ok request))

-- A line of a plain actor sends its reply, and nothing besides unless it subscribes.

abbrev pub is_subscribe : Request → Bool
is_subscribe (requests.Subscribe keep floor ceiling paths wanted minimum filtered versions) = true
is_subscribe request = false

abbrev pub PlainLinesSendTheirReply : Type 0
PlainLinesSendTheirReply = (given : Environment) (w : Whole) (ms fabric node : ℕ) (cats : List ℕ) (opcode : ℕ) (payload : List ℕ) (asking : Actor) (request : Request)
    → asker w.state.node (line_actor fabric node cats) ≡ Some asking → request_in opcode payload ≡ Ok request → is_subscribe request ≡ false
    → sent given w (Ask ms fabric node cats opcode payload) ≡ sent_as ms asking.fabric (full_line_reply given w.state w.ledger (line_actor fabric node cats) asking ms (Ok request))

pub record RepliesAreExact : Type 0 where
  pub plain : PlainRepliesAreExact
  pub over_sessions : SessionRepliesAreExact
  pub lines : PlainLinesSendTheirReply
