-- One line of a recording: the action that it makes, what is sent, and the state behind it.
use Rattle.std.specs.Prelude.{ℕ, ◌+◌, ◌-◌, ◌^◌, ◌==◌, ◌&&◌, not, nat_lt, Bool, true, false, List, [], ◌∷◌, ◌++◌, Option, Some, None, Result, Ok, Err, bytes_eq, filter, if◌then◌else◌, length, map, min, unwrap_or}
use Rattle.std.specs.List.{find}
use Rattle.std.specs.Option.{option_map}
use Rattle.mt_im.specs.Reading.{request_in}
use Rattle.mt_im.specs.declared.fault.ImFault.{ImFault}
use Rattle.mt_im.specs.declared.fault.ImFault.TheVariants as faults
use Rattle.mt_im_out.specs.Chunks.{chunks_of}
use Rattle.mt_model.specs.messages.Status.{code_of}
use Rattle.mt_model.specs.declared.tables.access.Actor.{Actor}
use Rattle.mt_model.specs.declared.node.action.Action.{Action}
use Rattle.mt_model.specs.declared.node.action.Action.TheVariants as actions
use Rattle.mt_model.specs.declared.node.action.PlainDeadline.{PlainDeadline}
use Rattle.mt_model.specs.declared.messages.message.Payload.{Payload}
use Rattle.mt_model.specs.declared.messages.message.Reply.{Reply}
use Rattle.mt_model.specs.declared.messages.message.Request.{Request}
use Rattle.mt_model.specs.declared.messages.message.Request.TheVariants as requests
use Rattle.mt_model.specs.declared.texts.recording.Event.{Event}
use Rattle.mt_model.specs.declared.texts.recording.Event.TheVariants as events
use Rattle.mt_model.specs.declared.texts.recording.Sent.{Sent}
use Rattle.mt_model.specs.declared.texts.recording.To.TheVariants.{Plain}
use Rattle.mt_model.specs.declared.node.state.NodeState.{NodeState}
use Rattle.mt_model.specs.declared.messages.status.Status.TheVariants.{Busy, InvalidAction, PathsExhausted}
use Rattle.mt_model.specs.declared.limits.TheConstants.{PLAIN_DEADLINES}
use Rattle.mt_machine.specs.Environment.{Environment}
use Rattle.mt_machine.specs.Isolation.{is_deadline_in}
use Rattle.mt_machine.specs.Rollback.{deadlines_left, is_due}
use Rattle.mt_machine.specs.Leaving.{has_left}
use Rattle.mt_machine.specs.State.{State}
use Rattle.mt_machine.specs.Step.{after_action, asker, case_actor, is_late, pase_actor, refusal, reply_of}

-- Whom a plain line names: the plain PASE session where its fabric is 0, otherwise a node of its fabric.
abbrev pub line_actor : ℕ → ℕ → List ℕ → Actor
line_actor fabric node cats = if fabric == 0 then pase_actor 0 else case_actor fabric node cats

-- a time step is nobody's: in it an expiry may take back what is any fabric's
abbrev pub is_tick : Event → Bool
is_tick (events.Ask ms fabric node cats opcode payload) = false
is_tick (events.Datagram ms peer bytes) = false
is_tick (events.Tick ms) = true
is_tick (events.Report ms fabric subscription) = false
is_tick (events.Resend ms session) = false
is_tick (events.Stop calls fate) = false

-- The fabric for which an event acts: a line of fabric 0 acts for the fabric that the plain PASE session has.
abbrev pub fabric_of : NodeState → Event → ℕ
fabric_of s (events.Ask ms fabric node cats opcode payload) = if fabric == 0 then unwrap_or s.plain 0 else fabric
fabric_of s (events.Datagram ms peer bytes) = 0
fabric_of s (events.Tick ms) = 0
fabric_of s (events.Report ms fabric subscription) = 0
fabric_of s (events.Resend ms session) = 0
fabric_of s (events.Stop calls fate) = 0

-- Deadlines. An actor is its fabric, its node and its CATs together.

abbrev pub is_deadline_of : Actor → PlainDeadline → Bool
is_deadline_of actor deadline = deadline.fabric == actor.fabric && (deadline.node == actor.node && bytes_eq deadline.cats actor.cats)

-- until when the next request of an actor must come, where that is set
abbrev pub deadline_of : Actor → List PlainDeadline → Option ℕ
deadline_of actor deadlines = option_map (λ (deadline : PlainDeadline). deadline.until) (find (is_deadline_of actor) deadlines)

-- the deadlines of others
abbrev pub without : Actor → List PlainDeadline → List PlainDeadline
without actor deadlines = filter (λ (deadline : PlainDeadline). not (is_deadline_of actor deadline)) deadlines

-- no more actors of a fabric have a deadline at once than may
abbrev pub has_room : Actor → List PlainDeadline → Bool
has_room actor deadlines = nat_lt (length (filter (is_deadline_in actor.fabric) (without actor deadlines))) PLAIN_DEADLINES

-- a time that is later by some ms, at most the last of 64 bits
abbrev pub later_by : ℕ → ℕ → ℕ
later_by ms now = min (now + ms) (2 ^ 64 - 1)

abbrev pub deadline_at : Actor → ℕ → PlainDeadline
deadline_at actor until = record { fabric = actor.fabric; node = actor.node; cats = actor.cats; until = until }

-- What a payload asks.

-- the reply to a payload that is no request
abbrev pub fault_reply : ImFault → Reply
fault_reply faults.TooManyPaths = refusal (code_of PathsExhausted)
fault_reply fault = refusal (code_of InvalidAction)

-- the action that a payload makes
abbrev pub action_of : Actor → Option ℕ → Result Request ImFault → Action
action_of actor deadline (Ok request) = actions.Ask actor request deadline
action_of actor deadline (Err fault) = actions.Nothing

-- whether a request sets a time
abbrev pub is_timed : Request → Bool
is_timed (requests.Timed ms) = true
is_timed request = false

-- what sets a time is refused where there is no room for it
abbrev pub is_refused : Actor → List PlainDeadline → ℕ → Request → Bool
is_refused actor deadlines ms request = is_timed request && (not (has_room actor deadlines) && not (is_late (deadline_of actor deadlines) ms))

-- What a line is replied where this actor is taken as asking. A payload that is no request is refused, whatever
-- deadline stood.
abbrev pub line_reply : Environment → State → Actor → Actor → ℕ → Result Request ImFault → Reply
line_reply given s actor asker ms (Ok request) =
    if is_refused asker s.deadlines ms request then refusal (code_of Busy)
    else reply_of given s.node (action_of actor (deadline_of asker s.deadlines) (Ok request)) ms
line_reply given s actor asker ms (Err fault) = fault_reply fault

-- The deadlines behind a line. Whatever the actor sends takes its deadline away; what sets a time, in time and with room,
-- sets the next one.
abbrev pub with_deadline : Actor → List PlainDeadline → ℕ → Result Request ImFault → List PlainDeadline
with_deadline asker deadlines ms (Ok (requests.Timed wait)) =
    if has_room asker deadlines && not (is_late (deadline_of asker deadlines) ms) then without asker deadlines ++ deadline_at asker (later_by wait ms) ∷ []
    else without asker deadlines
with_deadline asker deadlines ms asked = without asker deadlines

-- nobody's deadline goes where nobody is taken as asking
abbrev pub deadlines_after : Option Actor → List PlainDeadline → ℕ → Result Request ImFault → List PlainDeadline
deadlines_after None deadlines ms asked = deadlines
deadlines_after (Some asker) deadlines ms asked = with_deadline asker deadlines ms asked

-- The deadlines of a fabric that leaves the table go with it.

abbrev pub deadlines_of_those_left : NodeState → NodeState → List PlainDeadline → List PlainDeadline
deadlines_of_those_left before now deadlines = filter (λ (deadline : PlainDeadline). not (has_left before now deadline.fabric)) deadlines

-- What is sent.

-- a payload to a plain actor
abbrev pub sent_plain : ℕ → ℕ → Payload → Sent
sent_plain ms fabric payload = record { ms = ms; to = Plain fabric payload.opcode; bytes = payload.bytes }

-- the payloads of a reply; a plain actor confirms each at once
abbrev pub sent_as : ℕ → ℕ → Reply → List Sent
sent_as ms fabric reply = map (sent_plain ms fabric) (chunks_of reply)

-- to whoever is taken as asking; nothing where nobody is
abbrev pub sent_to : Environment → State → Actor → ℕ → Result Request ImFault → Option Actor → List Sent
sent_to given s actor ms asked None = []
sent_to given s actor ms asked (Some asker) = sent_as ms asker.fabric (line_reply given s actor asker ms asked)

-- what a line of a plain actor sends, whose payload comes to this
abbrev pub sent_for : Environment → State → Actor → ℕ → Result Request ImFault → List Sent
sent_for given s actor ms asked = sent_to given s actor ms asked (asker s.node actor)

-- until when the request of an actor must come, where somebody is taken as asking
abbrev pub deadline_for : State → Option Actor → Option ℕ
deadline_for s None = None
deadline_for s (Some asker) = deadline_of asker s.deadlines

abbrev pub next_for : Environment → State → Actor → ℕ → Result Request ImFault → State
next_for given s actor ms asked = record {
  node = after_action given s.node (action_of actor (deadline_for s (asker s.node actor)) asked) ms;
  deadlines = deadlines_of_those_left s.node (after_action given s.node (action_of actor (deadline_for s (asker s.node actor)) asked) ms) (deadlines_after (asker s.node actor) s.deadlines ms asked);
}

-- The state behind an action that no line of a plain actor makes. Nobody's deadline goes but those of a fabric that leaves.
abbrev pub behind_action : Environment → State → Action → ℕ → State
behind_action given s action ms = record {
  node = after_action given s.node action ms;
  deadlines = deadlines_of_those_left s.node (after_action given s.node action ms) s.deadlines;
}

-- A time step lets the fail-safe expire where it is time: then the deadlines of the fabric that goes, go with it.
abbrev pub next_tick : Environment → State → ℕ → State
next_tick given s ms = record {
  node = after_action given s.node actions.Expire ms;
  deadlines = if is_due s.node.armed ms then deadlines_left s.node.armed s.deadlines else s.deadlines;
}

-- What a line of a plain actor or a time step sends; the lines of datagrams, reports and what is sent again stand above this crate, and are
-- nothing here. mt_runs has what every line sends, and the whole behind it.
abbrev pub plain_sent : Environment → State → Event → List Sent
plain_sent given s (events.Ask ms fabric node cats opcode payload) = sent_for given s (line_actor fabric node cats) ms (request_in opcode payload)
plain_sent given s (events.Datagram ms peer bytes) = []
plain_sent given s (events.Tick ms) = []
plain_sent given s (events.Report ms fabric subscription) = []
plain_sent given s (events.Resend ms session) = []
plain_sent given s (events.Stop calls fate) = []

-- the state behind a line of a plain actor or a time step
abbrev pub plain_next : Environment → State → Event → State
plain_next given s (events.Ask ms fabric node cats opcode payload) = next_for given s (line_actor fabric node cats) ms (request_in opcode payload)
plain_next given s (events.Datagram ms peer bytes) = s
plain_next given s (events.Tick ms) = next_tick given s ms
plain_next given s (events.Report ms fabric subscription) = s
plain_next given s (events.Resend ms session) = s
plain_next given s (events.Stop calls fate) = s
