-- Every line of a recording: what it sends, and the whole behind it.
use Rattle.std.specs.Prelude.{ℕ, Bool, true, false, List, [], ◌++◌, Option, Some, None, Result, map, unwrap_or}
use Rattle.std.specs.Option.{option_and_then}
use Rattle.mt_im.specs.Reading.{request_in}
use Rattle.mt_im.specs.declared.fault.ImFault.{ImFault}
use Rattle.mt_im_out.specs.Chunks.{chunks_of}
use Rattle.mt_model.specs.declared.messages.message.Reply.{Reply}
use Rattle.mt_model.specs.declared.messages.message.Request.{Request}
use Rattle.mt_model.specs.declared.node.action.Action.{Action}
use Rattle.mt_model.specs.declared.node.action.Action.TheVariants as actions
use Rattle.mt_model.specs.declared.node.state.NodeState.{NodeState}
use Rattle.mt_model.specs.declared.tables.access.Actor.{Actor}
use Rattle.mt_model.specs.declared.texts.recording.Event.{Event}
use Rattle.mt_model.specs.declared.texts.recording.Event.TheVariants as events
use Rattle.mt_model.specs.declared.texts.recording.Sent.{Sent}
use Rattle.mt_outside.specs.declared.network.Peer.{Peer}
use Rattle.mt_talk.specs.Talks.{Talk, after_report, report_in, sent_by}
use Rattle.mt_machine.specs.Environment.{Environment}
use Rattle.mt_machine.specs.Lines as plain
use Rattle.mt_machine.specs.Lines.{action_of, behind_action, deadline_for, line_actor, sent_as}
use Rattle.mt_machine.specs.State.{State}
use Rattle.mt_machine.specs.Step.{asker}
use Rattle.mt_ledger.specs.Asking.{full_line_reply, line_response}
use Rattle.mt_ledger.specs.Behind.{Activity, acts, action_in, ledger_behind, reports}
use Rattle.mt_ledger.specs.Ledger.{Ledger}
use Rattle.mt_ledger.specs.Reporting.{Due, due_now, due_report}
use Rattle.mt_runs.specs.Datagrams.{all_sent, activity_resent, activity_said, if_any, resent_over, resent_talk, said_to, sent_over, session_named, talked}
use Rattle.mt_runs.specs.Whole.{SessionTalk, Whole, fabric_live, let_go, talk_of, with_talk}

-- The fabric for which an event acts: that for which the session that it names is live, and 0 where none is; a report step names its fabric.

abbrev pub fabric_named : NodeState → Option ℕ → ℕ
fabric_named s named = unwrap_or (option_and_then (fabric_live s) named) 0

abbrev pub fabric_of : NodeState → Event → ℕ
fabric_of s (events.Datagram ms from bytes) = fabric_named s (session_named bytes)
fabric_of s (events.Resend ms session) = fabric_named s (Some session)
fabric_of s (events.Report ms fabric subscription) = fabric
fabric_of s event = plain.fabric_of s event

-- What is sent.

-- to a plain actor, whose payload comes to this; nothing where nobody is taken as asking. It confirms what it is told at once, and a
-- subscription stands with that.

abbrev pub sent_line : Environment → State → Ledger → Actor → ℕ → Result Request ImFault → Option Actor → List Sent
sent_line given s l actor ms asked None = []
sent_line given s l actor ms asked (Some asking) = sent_as ms asking.fabric (full_line_reply given s l actor asking ms asked) ++ sent_as ms asking.fabric (line_response s l asking ms asked)

abbrev pub sent_asked : Environment → State → Ledger → Actor → ℕ → Result Request ImFault → List Sent
sent_asked given s l actor ms asked = sent_line given s l actor ms asked (asker s.node actor)

-- over the session that is named

abbrev pub sent_named : Environment → NodeState → Ledger → ℕ → Peer → List ℕ → Option SessionTalk → List Sent
sent_named given s l ms from bytes None = []
sent_named given s l ms from bytes (Some t) = sent_over given s l ms from bytes t

abbrev pub resent_named : NodeState → ℕ → Option SessionTalk → List Sent
resent_named s ms None = []
resent_named s ms (Some t) = resent_over s ms t

-- a report, to a plain actor or over the session of the subscriber

abbrev pub reported_over : ℕ → Reply → Option SessionTalk → List Sent
reported_over ms report None = []
reported_over ms report (Some t) = all_sent ms t.row.session t.talk.latest (if_any (sent_by (report_in t.row t.talk (chunks_of report))))

abbrev pub sent_to : ℕ → ℕ → Reply → List SessionTalk → Option ℕ → List Sent
sent_to ms fabric report talks None = sent_as ms fabric report
sent_to ms fabric report talks (Some session) = reported_over ms report (talk_of (Some session) talks)

abbrev pub sent_due : NodeState → Ledger → List SessionTalk → ℕ → ℕ → ℕ → Option Due → List Sent
sent_due s l talks ms fabric id None = []
sent_due s l talks ms fabric id (Some due) = sent_to ms fabric (due_report s l.history fabric id due) talks due.kept.sub.actor.session

-- WHAT A LINE SENDS; a time step sends nothing
abbrev pub sent : Environment → Whole → Event → List Sent
sent given w (events.Ask ms fabric node cats opcode payload) = sent_asked given w.state w.ledger (line_actor fabric node cats) ms (request_in opcode payload)
sent given w (events.Datagram ms from bytes) = sent_named given w.state.node w.ledger ms from bytes (talk_of (session_named bytes) w.talks)
sent given w (events.Tick ms) = []
sent given w (events.Report ms fabric id) = sent_due w.state.node w.ledger w.talks ms fabric id (due_now w.state.node w.ledger ms fabric id)
sent given w (events.Resend ms session) = resent_named w.state.node ms (talk_of (Some session) w.talks)
sent given w (events.Stop calls fate) = []

-- WHAT IS DONE in a line that takes time, beside what is sent and said.

abbrev pub action_asked : State → Actor → Result Request ImFault → Action
action_asked s actor asked = action_of actor (deadline_for s (asker s.node actor)) asked

abbrev pub activity_named : NodeState → List ℕ → Option SessionTalk → Activity
activity_named s bytes None = acts actions.Nothing
activity_named s bytes (Some t) = activity_said s t.row.session (said_to s bytes t)

abbrev pub activity_again : NodeState → ℕ → Option SessionTalk → Activity
activity_again s ms None = acts actions.Nothing
activity_again s ms (Some t) = activity_resent s ms t

-- The node and the deadlines behind a line.

abbrev pub state_behind : Environment → Whole → Event → State
state_behind given w (events.Datagram ms from bytes) = behind_action given w.state (action_in (activity_named w.state.node bytes (talk_of (session_named bytes) w.talks))) ms
state_behind given w (events.Report ms fabric id) = behind_action given w.state actions.Nothing ms
state_behind given w (events.Resend ms session) = behind_action given w.state actions.Nothing ms
state_behind given w event = plain.plain_next given w.state event

-- The events and subscriptions behind a line.

abbrev pub ledger_after : Environment → Whole → Event → Ledger
ledger_after given w (events.Ask ms fabric node cats opcode payload) = ledger_behind given w.state.node (acts (action_asked w.state (line_actor fabric node cats) (request_in opcode payload))) ms w.ledger
ledger_after given w (events.Datagram ms from bytes) = ledger_behind given w.state.node (activity_named w.state.node bytes (talk_of (session_named bytes) w.talks)) ms w.ledger
ledger_after given w (events.Tick ms) = ledger_behind given w.state.node (acts actions.Expire) ms w.ledger
ledger_after given w (events.Report ms fabric id) = ledger_behind given w.state.node (reports fabric id) ms w.ledger
ledger_after given w (events.Resend ms session) = ledger_behind given w.state.node (activity_again w.state.node ms (talk_of (Some session) w.talks)) ms w.ledger
ledger_after given w (events.Stop calls fate) = w.ledger

-- What is said behind a line.

-- the talk that an event names is another behind it
abbrev pub with_next : (SessionTalk → Talk) → Option SessionTalk → List SessionTalk → List SessionTalk
with_next behind None talks = talks
with_next behind (Some t) talks = with_talk t.row.session (behind t) talks

-- over the session of the subscriber a report is sent, and kept until it is acknowledged

abbrev pub reported_talk : ℕ → ℕ → Reply → SessionTalk → Talk
reported_talk ms id report t = after_report t.row id (chunks_of report) ms t.talk

abbrev pub talks_told : ℕ → ℕ → Reply → List SessionTalk → Option ℕ → List SessionTalk
talks_told ms id report talks None = talks
talks_told ms id report talks (Some session) = with_next (reported_talk ms id report) (talk_of (Some session) talks) talks

abbrev pub talks_due : NodeState → Ledger → List SessionTalk → ℕ → ℕ → ℕ → Option Due → List SessionTalk
talks_due s l talks ms fabric id None = talks
talks_due s l talks ms fabric id (Some due) = talks_told ms id (due_report s l.history fabric id due) talks due.kept.sub.actor.session

abbrev pub talks_behind : Environment → Whole → Event → List SessionTalk
talks_behind given w (events.Datagram ms from bytes) = with_next (talked given w.state.node w.ledger ms from bytes) (talk_of (session_named bytes) w.talks) w.talks
talks_behind given w (events.Report ms fabric id) = talks_due w.state.node w.ledger w.talks ms fabric id (due_now w.state.node w.ledger ms fabric id)
talks_behind given w (events.Resend ms session) = with_next (resent_talk w.state.node ms) (talk_of (Some session) w.talks) w.talks
talks_behind given w event = w.talks

-- THE WHOLE BEHIND A LINE. Sessions that end with it let go of their exchanges.
abbrev pub next : Environment → Whole → Event → Whole
next given w event = record {
  state = state_behind given w event;
  ledger = ledger_after given w event;
  talks = map (let_go w.state.node (state_behind given w event).node) (talks_behind given w event);
}

-- Whether a line stops the disk. Such a line sends nothing and leaves the whole as it is; what becomes of the node the course of the recording says.
abbrev pub is_stop : Event → Bool
is_stop (events.Stop calls fate) = true
is_stop event = false
