-- What an outcome stands for.
use Rattle.std.specs.Prelude.{◌≡◌, ℕ, List, [], Option, Some, None}
use Rattle.mt_durable.specs.declared.durable.Entry.{Entry}
use Rattle.mt_model.specs.declared.node.state.NodeState.{NodeState}
use Rattle.mt_model.specs.declared.texts.config.RootRow.{RootRow}
use Rattle.mt_model.specs.declared.texts.config.SessionRow.{SessionRow}
use Rattle.mt_model.specs.declared.texts.config.CsrRow.{CsrRow}
use Rattle.mt_model.specs.declared.texts.config.JoinRow.{JoinRow}
use Rattle.mt_model.specs.declared.texts.recording.Event.{Event}
use Rattle.mt_model.specs.declared.texts.recording.Event.TheVariants as events
use Rattle.mt_model.specs.declared.texts.recording.Sent.{Sent}
use Rattle.mt_model.specs.declared.texts.config.Config.{Config}
use Rattle.mt_model.specs.declared.node.action.Action.TheVariants as actions
use Rattle.mt_outside.specs.declared.network.Peer.{Peer}
use Rattle.mt_frame.specs.declared.header.ProtocolHeader.{ProtocolHeader}
use Rattle.mt_session.specs.Opening.{Arrival}
use Rattle.mt_talk.specs.Hearing.{Said, fresh_by, received_in}
use Rattle.mt_model.specs.declared.messages.message.Payload.{Payload}
use Rattle.mt_talk.specs.Talks.{IsTalkOf, Talk, after_report, report_in, sent_by}
use Rattle.mt_interactions.specs.mt_machine.Environment.{Environment}
use Rattle.mt_interactions.specs.mt_machine.Lines.{behind_action}
use Rattle.mt_interactions.specs.mt_machine.State.{State}
use Rattle.mt_interactions.specs.mt_runs.Datagrams.{Answer, all_sent, answer_to, activity_resent, activity_said, if_any, resent_over, resent_talk, said_to, sent_over, session_named, talked}
use Rattle.mt_interactions.specs.mt_ledger.Behind.{acts, action_in, ledger_behind}
use Rattle.mt_interactions.specs.mt_ledger.Ledger.{Ledger, opened_at}
use Rattle.mt_interactions.specs.mt_regained.Begun.{ceiling_in, next_boot}
use Rattle.mt_interactions.specs.mt_runs.Lines.{ledger_after, sent, state_behind, talks_behind}
use Rattle.mt_interactions.specs.mt_runs.Whole.{SessionTalk, Whole, begun_in, talk_of}
use Rattle.mt_interactions.specs.Configured as configured
use Rattle.mt_interactions.specs.Plan as interactions
use Rattle.mt_interactions.specs.Plan.{applied_ledger, applied_state}
use Rattle.mt_interactions.specs.declared.outcome.InteractionOutcome.{InteractionOutcome}
use Rattle.mt_whole.specs.declared.datagrams.Answering.{Answering}
use Rattle.mt_whole.specs.declared.outcome.WholeOutcome.{WholeOutcome}
use Rattle.mt_whole.specs.declared.whole.Whole as whole
use Rattle.mt_whole.specs.declared.talks.SessionTalk as code
use Rattle.mt_whole.specs.Talks.{AreTalks, IsWholeOf, put}

-- what is given to a whole, where these are the rows of the verdicts
abbrev pub given_to : whole.Whole → List RootRow → List CsrRow → List JoinRow → Environment
given_to one roots csrs joins = configured.given_to one.interactions roots csrs joins

-- the whole that begins in this state of the node, where this ceiling of event numbers was stored: nobody has a deadline or has subscribed, and
-- nothing has been said over the sessions of its boot
abbrev pub whole_from : NodeState → ℕ → List SessionRow → Whole
whole_from s ceiling sessions = record { state = record { node = s; deadlines = [] }; ledger = opened_at ceiling; talks = begun_in s.boot sessions }

-- a whole that was started with the map with which a node goes on, and with this configuration
pub record IsStarted (map : List Entry) (config : Config) (one : whole.Whole) : Type 0 where
  pub begun : configured.IsStarted map config one.interactions
  pub stands : (s : NodeState) → next_boot config map ≡ Some s → IsWholeOf one (whole_from s (ceiling_in map) config.sessions)

-- a message that was let in, as the code tells it
abbrev pub told_fresh : Option (ℕ × ProtocolHeader × List ℕ) → Option Arrival
told_fresh None = None
told_fresh (Some fresh) = Some (record { counter = fresh.0; header = fresh.1; payload = fresh.2 })

-- the message that a line brings to its session, live or not
abbrev pub fresh_over : List ℕ → SessionTalk → Option Arrival
fresh_over bytes t = fresh_by (received_in t.row t.talk bytes)

abbrev pub fresh_named : List ℕ → Option SessionTalk → Option Arrival
fresh_named bytes None = None
fresh_named bytes (Some t) = fresh_over bytes t

abbrev pub fresh_by_line : Whole → Event → Option Arrival
fresh_by_line w (events.Datagram ms from bytes) = fresh_named bytes (talk_of (session_named bytes) w.talks)
fresh_by_line w event = None

-- The outcome brings what this event does, but for what is sent: the message to its session, the node and the deadlines, what is said.
pub record Brings (given : Environment) (w : Whole) (event : Event) (outcome : WholeOutcome) : Type 0 where
  pub fresh : told_fresh outcome.fresh ≡ fresh_by_line w event
  pub state : applied_state outcome.interactions w.state ≡ state_behind given w event
  pub ledger : applied_ledger outcome.interactions w.state w.ledger ≡ ledger_after given w event
  pub talks : (talks : List code.SessionTalk) → AreTalks talks w.talks → AreTalks (put outcome.talk talks) (talks_behind given w event)

-- The outcome is that of this event: what is sent, and what it brings.
pub record IsPlan (given : Environment) (w : Whole) (event : Event) (outcome : WholeOutcome) : Type 0 where
  pub sent : outcome.sent ≡ sent given w event
  pub brings : Brings given w event outcome

-- The outcome was made on this state, where this was the ledger.
abbrev pub IsPlanned : State → Ledger → WholeOutcome → Type 0
IsPlanned s l outcome = interactions.IsPlanned s l outcome.interactions

-- What comes over one session.

-- the talk that an outcome brings is that of this session, and stands for this
abbrev pub IsNewTalk : Option code.SessionTalk → SessionTalk → Talk → Type 0
IsNewTalk None t talk = ⊥
IsNewTalk (Some new) t talk = (new.id ≡ t.row.session) × IsTalkOf new.talk t.row talk

pub record IsHeard (given : Environment) (s : State) (l : Ledger) (ms : ℕ) (from : Peer) (bytes : List ℕ) (t : SessionTalk) (outcome : WholeOutcome) : Type 0 where
  pub sent : outcome.sent ≡ sent_over given s.node l ms from bytes t
  pub fresh : told_fresh outcome.fresh ≡ fresh_over bytes t
  pub state : applied_state outcome.interactions s ≡ behind_action given s (action_in (activity_said s.node t.row.session (said_to s.node bytes t))) ms
  pub ledger : applied_ledger outcome.interactions s l ≡ ledger_behind given s.node (activity_said s.node t.row.session (said_to s.node bytes t)) ms l
  pub talk : IsNewTalk outcome.talk t (talked given s.node l ms from bytes t)

-- What is answered to what is said: on which exchange, with which acknowledgement, and what comes of it.

abbrev pub answer_as : Option Answering → Option Answer
answer_as None = None
answer_as (Some answer) = Some (record { key = answer.key; acknowledge = answer.acknowledge; payloads = answer.payloads })

pub record IsAnswered (given : Environment) (s : State) (l : Ledger) (id ms : ℕ) (said : Said) (both : Option Answering × InteractionOutcome) : Type 0 where
  pub answer : answer_as both.0 ≡ answer_to given s.node l id ms said
  pub state : applied_state both.1 s ≡ behind_action given s (action_in (activity_said s.node id said)) ms
  pub ledger : applied_ledger both.1 s l ≡ ledger_behind given s.node (activity_said s.node id said) ms l
  pub planned : interactions.IsPlanned s l both.1

-- What is of no session, what passes, and what is sent again.

-- these messages are sent, and nothing is said
pub record IsPlainly (messages : List Sent) (made : InteractionOutcome) (outcome : WholeOutcome) : Type 0 where
  pub sent : outcome.sent ≡ messages
  pub fresh : outcome.fresh ≡ None
  pub interactions : outcome.interactions ≡ made
  pub talk : outcome.talk ≡ None

-- nothing is sent or said, and time passes
pub record IsQuiet (given : Environment) (s : State) (l : Ledger) (ms : ℕ) (outcome : WholeOutcome) : Type 0 where
  pub sent : outcome.sent ≡ []
  pub fresh : outcome.fresh ≡ None
  pub state : applied_state outcome.interactions s ≡ behind_action given s actions.Nothing ms
  pub ledger : applied_ledger outcome.interactions s l ≡ ledger_behind given s.node (acts actions.Nothing) ms l
  pub talk : outcome.talk ≡ None
  pub planned : IsPlanned s l outcome

-- the talk that an outcome brings, if any, stands for this; where it brings none it stays
abbrev pub IsTalkBehind : Option code.SessionTalk → SessionTalk → Talk → Type 0
IsTalkBehind None t talk = talk ≡ t.talk
IsTalkBehind (Some new) t talk = (new.id ≡ t.row.session) × IsTalkOf new.talk t.row talk

pub record IsAgain (given : Environment) (s : State) (l : Ledger) (ms : ℕ) (t : SessionTalk) (outcome : WholeOutcome) : Type 0 where
  pub sent : outcome.sent ≡ resent_over s.node ms t
  pub fresh : outcome.fresh ≡ None
  pub state : applied_state outcome.interactions s ≡ behind_action given s actions.Nothing ms
  pub ledger : applied_ledger outcome.interactions s l ≡ ledger_behind given s.node (activity_resent s.node ms t) ms l
  pub talk : IsTalkBehind outcome.talk t (resent_talk s.node ms t)

-- these payloads are reported over a session
pub record IsToldOver (ms id : ℕ) (payloads : List Payload) (t : SessionTalk) (outcome : WholeOutcome) : Type 0 where
  pub sent : outcome.sent ≡ all_sent ms t.row.session t.talk.latest (if_any (sent_by (report_in t.row t.talk payloads)))
  pub fresh : outcome.fresh ≡ None
  pub talk : IsNewTalk outcome.talk t (after_report t.row id payloads ms t.talk)
