-- One step of the node: who is taken as asking, what is replied, what the reply makes of the state.
use Rattle.std.specs.Prelude.{ℕ, ◌==◌, ◌&&◌, ◌++◌, not, nat_lt, Bool, true, false, List, [], ◌∷◌, Option, Some, None, filter, is_some, if◌then◌else◌, replicate}
use Rattle.std.specs.List.{find, list_any}
use Rattle.std.specs.Option.{option_and_then, option_map}
use Rattle.mt_tlv.specs.declared.value.Value.{Value}
use Rattle.mt_model.specs.messages.Blocks.{names_item}
use Rattle.mt_model.specs.rows.Seen.{Observation}
use Rattle.mt_model.specs.rows.Setting.{is_at}
use Rattle.mt_model.specs.declared.rows.place.Row.{Row}
use Rattle.mt_model.specs.declared.tables.network.Armed.{Armed}
use Rattle.mt_model.specs.messages.Status.{code_of}
use Rattle.mt_model.specs.declared.tables.access.Actor.{Actor}
use Rattle.mt_model.specs.declared.tables.access.Auth.{Auth}
use Rattle.mt_model.specs.declared.tables.access.Auth.TheVariants.{Pase, Case, Group}
use Rattle.mt_model.specs.declared.node.action.Action.{Action}
use Rattle.mt_model.specs.declared.node.action.Action.TheVariants.{Ask, Expire, Nothing}
use Rattle.mt_model.specs.declared.node.action.NodeStep.{NodeStep}
use Rattle.mt_model.specs.declared.node.action.NodeStep.TheVariants as steps
use Rattle.mt_model.specs.declared.tables.fabric.Fabric.{Fabric}
use Rattle.mt_model.specs.declared.messages.message.Item.{Item}
use Rattle.mt_model.specs.declared.messages.message.Path.{Path}
use Rattle.mt_model.specs.declared.rows.place.Place.{Place}
use Rattle.mt_model.specs.declared.messages.message.Reply.{Reply}
use Rattle.mt_model.specs.declared.messages.message.Reply.TheVariants as replies
use Rattle.mt_model.specs.declared.messages.message.Request.{Request}
use Rattle.mt_model.specs.declared.messages.message.Request.TheVariants as requests
use Rattle.mt_model.specs.declared.messages.message.WriteItem.{WriteItem}
use Rattle.mt_model.specs.declared.node.state.NodeSession.{NodeSession}
use Rattle.mt_model.specs.declared.node.state.NodeState.{NodeState}
use Rattle.mt_model.specs.declared.node.state.Standing.{Standing}
use Rattle.mt_model.specs.declared.node.state.Standing.TheVariants.{Waits, Live, Ended}
use Rattle.mt_model.specs.declared.node.state.Version.{Version}
use Rattle.mt_model.specs.declared.messages.status.Status.TheVariants.{InvalidAction, Success, TimedRequestMismatch, Timeout}
use Rattle.mt_read.specs.Reading.{read_answer}
use Rattle.mt_write.specs.Writing.{write_answer}
use Rattle.mt_admin.specs.Windows.{ticked}
use Rattle.mt_apps.specs.EntryEvents.{entry_events}
use Rattle.mt_machine.specs.Environment.{Environment}
use Rattle.mt_machine.specs.Changes.{settled}
use Rattle.mt_machine.specs.Commands.{command_effect}
use Rattle.mt_machine.specs.Effects.{after_all}
use Rattle.mt_machine.specs.Observation.{observation}
use Rattle.mt_machine.specs.Rollback.{is_due}
use Rattle.mt_machine.specs.State.{is_among, is_member}

-- Who is taken as asking.

-- a plain actor of a fabric is taken as a CASE peer of no session
abbrev pub case_actor : ℕ → ℕ → List ℕ → Actor
case_actor fabric node cats = record { fabric = fabric; auth = Case; node = node; cats = cats; session = None }

-- the plain PASE session, with the fabric that it has
abbrev pub pase_actor : ℕ → Actor
pase_actor fabric = record { fabric = fabric; auth = Pase; node = 0; cats = replicate 3 0; session = None }

-- the actor of a session, None where the session is not live
abbrev pub live_actor : NodeSession → Standing → Option Actor
live_actor session (Live fabric) = Some (record { fabric = fabric; auth = session.auth; node = session.peer_node; cats = session.cats; session = Some session.session })
live_actor session Waits = None
live_actor session Ended = None

abbrev pub session_actor : NodeState → ℕ → Option Actor
session_actor s id = option_and_then (λ (session : NodeSession). live_actor session session.standing) (find (λ (session : NodeSession). session.session == id) s.sessions)

-- Where this actor asks: on a session its actor; a plain CASE actor as it stands, where its fabric is in the table;
-- a plain PASE actor of no fabric and no node the plain PASE session; nobody otherwise.
abbrev pub plain_asker : NodeState → Actor → Auth → Option Actor
plain_asker s actor Case = if is_member actor.fabric s then Some actor else None
plain_asker s actor Pase = if actor.fabric == 0 && actor.node == 0 then option_map pase_actor s.plain else None
plain_asker s actor Group = None

abbrev pub asker_on : NodeState → Actor → Option ℕ → Option Actor
asker_on s actor (Some id) = session_actor s id
asker_on s actor None = plain_asker s actor actor.auth

abbrev pub asker : NodeState → Actor → Option Actor
asker s actor = asker_on s actor actor.session

-- What is replied.

abbrev pub refusal : ℕ → Reply
refusal code = replies.Status code

abbrev pub report_of : Option (List Item) → Reply
report_of None = refusal (code_of InvalidAction)
report_of (Some items) = replies.Report None items true

-- A read of single items of a list is refused as a whole, and so is one that asks every cluster for what
-- not every cluster has.
abbrev pub read_reply : Observation → Actor → List Path → Bool → List Version → Reply
read_reply o actor paths filtered versions =
    if list_any names_item paths then refusal (code_of InvalidAction)
    else report_of (read_answer o.seen actor paths filtered versions)

-- Whether a deadline stood for a request, and whether the request says that one did. They must agree.

abbrev pub is_untimely : Bool → Bool → Bool
is_untimely stood timed = if stood then not timed else timed

-- what answers a request itself is held back where it asks for no answer
abbrev pub unless_suppressed : Bool → Reply → Reply
unless_suppressed suppress reply = if suppress then replies.Nothing else reply

-- A write is answered with the statuses of its items, unless it asks for no answer.
abbrev pub write_reply : Observation → Actor → Bool → Bool → Bool → List WriteItem → Reply
write_reply o actor stood suppress timed items =
    if is_untimely stood timed then refusal (code_of TimedRequestMismatch)
    else unless_suppressed suppress (replies.Written (write_answer o.seen actor items timed).statuses)

-- what is written, and then the events of the access control lists among it
abbrev pub with_events : Observation → Actor → List NodeStep → List NodeStep
with_events o actor steps = steps ++ entry_events actor o.seen.entries steps

abbrev pub write_steps : Observation → Actor → Bool → Bool → List WriteItem → List NodeStep
write_steps o actor stood timed items = if is_untimely stood timed then [] else with_events o actor (write_answer o.seen actor items timed).rows

-- A command is answered with its response or its status, unless it asks for no answer. It is carried out all the same.
abbrev pub invoke_reply : Environment → Observation → Actor → Bool → Bool → Bool → Place → Value → Reply
invoke_reply given o actor stood suppress timed command fields =
    if is_untimely stood timed then refusal (code_of TimedRequestMismatch)
    else unless_suppressed suppress (command_effect given o actor timed command fields).reply

abbrev pub invoke_steps : Environment → Observation → Actor → Bool → Bool → Place → Value → List NodeStep
invoke_steps given o actor stood timed command fields = if is_untimely stood timed then [] else (command_effect given o actor timed command fields).steps

-- The reply to a request but for the events that it asks for, made of what the asker's fabric observes and of whether a deadline stood
-- for the request. A status is no request; what sets a time is answered with success. What opens a
-- subscription stands with those that are open, above this crate.
abbrev pub reply_to : Environment → Observation → Actor → Bool → Request → Reply
reply_to given o actor stood (requests.Status code) = refusal (code_of InvalidAction)
reply_to given o actor stood (requests.Read paths wanted minimum filtered versions) = read_reply o actor paths filtered versions
reply_to given o actor stood (requests.Subscribe keep floor ceiling paths wanted minimum filtered versions) = replies.Nothing
reply_to given o actor stood (requests.Write suppress timed items) = write_reply o actor stood suppress timed items
reply_to given o actor stood (requests.Invoke suppress timed command fields) = invoke_reply given o actor stood suppress timed command fields
reply_to given o actor stood (requests.Timed ms) = refusal (code_of Success)

-- what a request makes of the state: writes and commands alone change anything
abbrev pub steps_to : Environment → Observation → Actor → Bool → Request → List NodeStep
steps_to given o actor stood (requests.Status code) = []
steps_to given o actor stood (requests.Read paths wanted minimum filtered versions) = []
steps_to given o actor stood (requests.Subscribe keep floor ceiling paths wanted minimum filtered versions) = []
steps_to given o actor stood (requests.Write suppress timed items) = write_steps o actor stood timed items
steps_to given o actor stood (requests.Invoke suppress timed command fields) = invoke_steps given o actor stood timed command fields
steps_to given o actor stood (requests.Timed ms) = []

-- whether the deadline has passed
abbrev pub is_late : Option ℕ → ℕ → Bool
is_late None now = false
is_late (Some deadline) now = nat_lt deadline now

abbrev pub at_time : ℕ → NodeState → NodeState
at_time now s = record s { clock = now }

-- A request later than its deadline is refused, whatever it asks, and makes nothing of the state. It is answered of what is observed at its
-- time.

abbrev pub reply_in_time : Environment → NodeState → Actor → Request → Option ℕ → ℕ → Reply
reply_in_time given s asker request deadline now = if is_late deadline now then refusal (code_of Timeout) else reply_to given (observation asker.fabric (at_time now s)) asker (is_some deadline) request

abbrev pub steps_in_time : Environment → NodeState → Actor → Request → Option ℕ → ℕ → List NodeStep
steps_in_time given s asker request deadline now = if is_late deadline now then [] else steps_to given (observation asker.fabric (at_time now s)) asker (is_some deadline) request

-- Nothing is replied where nobody is taken as asking.

abbrev pub asked_reply : Environment → NodeState → Request → Option ℕ → ℕ → Option Actor → Reply
asked_reply given s request deadline now None = replies.Nothing
asked_reply given s request deadline now (Some asker) = reply_in_time given s asker request deadline now

abbrev pub asked_steps : Environment → NodeState → Request → Option ℕ → ℕ → Option Actor → List NodeStep
asked_steps given s request deadline now None = []
asked_steps given s request deadline now (Some asker) = steps_in_time given s asker request deadline now

-- An action at a time.

-- whether it lets the fail-safe expire
abbrev pub is_expiry : Action → Bool
is_expiry (Ask actor request deadline) = false
is_expiry Expire = true
is_expiry Nothing = false

-- who is taken as asking
abbrev pub asker_of : NodeState → Action → Option Actor
asker_of s (Ask actor request deadline) = asker s actor
asker_of s Expire = None
asker_of s Nothing = None

abbrev pub reply_of : Environment → NodeState → Action → ℕ → Reply
reply_of given s (Ask actor request deadline) now = asked_reply given s request deadline now (asker s actor)
reply_of given s Expire now = replies.Nothing
reply_of given s Nothing now = replies.Nothing

-- A time step lets the fail-safe expire where its end has come, and behind that closes the commissioning window whose end has come.

abbrev pub expiry_steps : Option Armed → ℕ → List NodeStep
expiry_steps armed now = if is_due armed now then steps.Expire ∷ [] else []

-- the rows of nobody at a place
abbrev pub rows_of_nobody : NodeState → Place → List Row
rows_of_nobody s place = filter (is_at place 0) s.rows

abbrev pub window_steps : NodeState → ℕ → List NodeStep
window_steps s now = ticked (rows_of_nobody s) now

abbrev pub tick_steps : NodeState → ℕ → List NodeStep
tick_steps s now = expiry_steps s.armed now ++ window_steps s now

abbrev pub steps_of : Environment → NodeState → Action → ℕ → List NodeStep
steps_of given s (Ask actor request deadline) now = asked_steps given s request deadline now (asker s actor)
steps_of given s Expire now = tick_steps s now
steps_of given s Nothing now = []

-- the state behind its steps, with the versions and change numbers that follow
abbrev pub after_steps : Option Actor → List NodeStep → NodeState → NodeState
after_steps asker steps s = settled s (after_all asker steps s)

-- the state behind it: it is this time, and its steps are made
abbrev pub after_action : Environment → NodeState → Action → ℕ → NodeState
after_action given s action now = after_steps (asker_of s action) (steps_of given s action now) (at_time now s)

-- What else an action does: on whose session it was asked, which sessions end, which fabric leaves the table.

abbrev pub session_asking : NodeState → Action → Option ℕ
session_asking s action = option_and_then (λ (asker : Actor). asker.session) (asker_of s action)

abbrev pub is_live : Standing → Bool
is_live Waits = false
is_live (Live fabric) = true
is_live Ended = false

-- the sessions that were live and are not any more; no step moves a session from its place
abbrev pub closed_between : List NodeSession → List NodeSession → List ℕ
closed_between [] sessions = []
closed_between (session ∷ sessions) [] = []
closed_between (before ∷ sessions) (now ∷ others) =
    if is_live before.standing && not (is_live now.standing) then before.session ∷ closed_between sessions others
    else closed_between sessions others

-- the first fabric that is not there any more
abbrev pub gone_between : List Fabric → List Fabric → Option ℕ
gone_between before now = option_map (λ (fabric : Fabric). fabric.index) (find (λ (fabric : Fabric). not (is_among now fabric.index)) before)

pub record Aside : Type 0 where
  pub session : Option ℕ
  pub closed : List ℕ
  pub gone : Option ℕ

abbrev pub aside_between : Option ℕ → NodeState → NodeState → Aside
aside_between session before now = record {
  session = session;
  closed = closed_between before.sessions now.sessions;
  gone = gone_between before.fabrics now.fabrics;
}

abbrev pub aside_of : Environment → NodeState → Action → ℕ → Aside
aside_of given s action now = aside_between (session_asking s action) s (after_action given s action now)
