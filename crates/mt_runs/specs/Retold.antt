-- What is shown of sessions tells the rest of what is said over them: what is open, owed and awaited, and the ids of the node's next exchanges.
use Rattle.std.specs.Prelude.{◌≢◌, ℕ, List, [], ◌∷◌, Option, Some, None, Result, Err}
use Rattle.std.specs.List.{AllByRecursion}
use Rattle.mt_im.specs.declared.fault.ImFault.{ImFault}
use Rattle.mt_im_out.specs.Chunks.{chunks_of}
use Rattle.mt_model.specs.declared.messages.message.Request.{Request}
use Rattle.mt_model.specs.declared.node.state.NodeState.{NodeState}
use Rattle.mt_model.specs.declared.tables.access.AclEntry.{AclEntry}
use Rattle.mt_model.specs.declared.tables.fabric.Fabric.{Fabric}
use Rattle.mt_model.specs.declared.texts.config.SessionRow.{SessionRow}
use Rattle.mt_model.specs.declared.texts.recording.Event.{Event}
use Rattle.mt_model.specs.declared.texts.recording.Event.TheVariants as events
use Rattle.mt_outside.specs.declared.network.Peer.{Peer}
use Rattle.mt_session.specs.declared.fault.SealFault.TheVariants.{TooLong}
use Rattle.mt_exchange.specs.Retold.{AwaitsAll}
use Rattle.mt_subs.specs.declared.subscription.SubState.{SubState}
use Rattle.mt_talk.specs.Awaiting.{AreReadable}
use Rattle.mt_talk.specs.Retold.{IsRetoldTalk}
use Rattle.mt_talk.specs.Talks.{Talk, answer_in}
use Rattle.mt_machine.specs.Environment.{Environment}
use Rattle.mt_ledger.specs.Ledger.{Ledger}
use Rattle.mt_ledger.specs.Reporting.{Due, due_now, due_report}
use Rattle.mt_runs.specs.Course.{Course, Going, course, goes, stepped, stops}
use Rattle.mt_runs.specs.Datagrams.{Answer, heard, its_answer, payloads_confirmed, payloads_over, reply_over, session_named}
use Rattle.mt_runs.specs.Lines.{next}
use Rattle.mt_runs.specs.Messages.{behind}
use Rattle.mt_runs.specs.Whole.{SessionTalk, Whole, talk_of, whole_with}

abbrev pub IsRetoldSession : SessionTalk → Type 0
IsRetoldSession t = IsRetoldTalk t.row t.talk

-- WHAT IS SHOWN TELLS the talk of each session, but for the payloads that are kept to be sent later.
abbrev pub AreRetold : Whole → Type 0
AreRetold w = AllByRecursion IsRetoldSession w.talks

-- The lines that leave it so: of the payloads with which a datagram is answered, and of those of a report, each but the last awaits its
-- confirmation; and the session does not refuse the answer as too long, which would leave what it answers unanswered, with nothing to show that.

abbrev pub IsToldAnswer : SessionRow → Talk → Option Answer → Type 0
IsToldAnswer row t None = Unit {0}
IsToldAnswer row t (Some answer) = AwaitsAll answer.payloads × (answer_in row t answer.key answer.acknowledge answer.payloads ≢ Err TooLong)

abbrev pub IsToldOver : Environment → NodeState → Ledger → ℕ → Peer → List ℕ → Option SessionTalk → Type 0
IsToldOver given s l ms from bytes None = Unit {0}
IsToldOver given s l ms from bytes (Some t) = IsToldAnswer t.row (heard s from bytes t) (its_answer given s l ms bytes t)

abbrev pub IsToldReport : NodeState → Ledger → ℕ → ℕ → Option Due → Type 0
IsToldReport s l fabric id None = Unit {0}
IsToldReport s l fabric id (Some due) = AwaitsAll (chunks_of (due_report s l.history fabric id due))

abbrev pub IsToldLine : Environment → Whole → Event → Type 0
IsToldLine given w (events.Datagram ms from bytes) = IsToldOver given w.state.node w.ledger ms from bytes (talk_of (session_named bytes) w.talks)
IsToldLine given w (events.Report ms fabric id) = IsToldReport w.state.node w.ledger fabric id (due_now w.state.node w.ledger ms fabric id)
IsToldLine given w event = Unit {0}

-- and the runs of such lines; a line in which the disk stops says nothing, and behind it nothing has been said
abbrev pub IsToldOnWay : Environment → Whole → Event → Course → Type 0
IsToldOnWay given w event (goes stop) = IsToldLine given w event
IsToldOnWay given w event (stops line survived) = Unit {0}

abbrev pub IsToldRun : Environment → List SessionRow → Going → List Event → Type 0
IsToldRun given sessions g [] = Unit {0}
IsToldRun given sessions g (event ∷ events) = IsToldOnWay given g.whole event (course given g event) × IsToldRun given sessions (stepped given sessions g event) events

-- It holds of what a boot begins with, and such lines and runs leave it so.

abbrev pub SessionsBeginRetold : Type 0
SessionsBeginRetold = (boot ceiling : ℕ) (fabrics : List Fabric) (entries : List AclEntry) (sessions : List SessionRow) → AreRetold (whole_with boot ceiling fabrics entries sessions)

abbrev pub LinesKeepRetold : Type 0
LinesKeepRetold = (given : Environment) (w : Whole) (e : Event) → IsToldLine given w e → AreRetold w → AreRetold (next given w e)

abbrev pub RunsKeepRetold : Type 0
RunsKeepRetold = (given : Environment) (sessions : List SessionRow) (g : Going) (events : List Event) → IsToldRun given sessions g events → AreRetold g.whole → AreRetold (behind given sessions g events).whole

-- Of the payloads of what is answered each but the last awaits its confirmation: where a report says what is allowed and is no longer than what
-- can be read, whatever deadline it carries; and where a confirmation is answered.

abbrev pub RepliesOverSessionsAwait : Type 0
RepliesOverSessionsAwait = (given : Environment) (s : NodeState) (l : Ledger) (id : ℕ) (timed : Option ℕ) (ms : ℕ) (asked : Result Request ImFault) → AreReadable (reply_over given s l id timed ms asked)
    → AwaitsAll (payloads_over given s l id timed ms asked)

abbrev pub ConfirmationsAwait : Type 0
ConfirmationsAwait = (fabric subscription : ℕ) (subs : SubState) → AwaitsAll (payloads_confirmed fabric subscription subs)
