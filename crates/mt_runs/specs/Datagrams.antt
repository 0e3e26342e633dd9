-- What a datagram comes to, and what is sent again.
use Rattle.std.specs.Prelude.{ℕ, List, [], ◌∷◌, Option, Some, None, Result, Ok, Err, map, replicate, if◌then◌else◌}
use Rattle.mt_im.specs.Reading.{request_in}
use Rattle.mt_im.specs.declared.fault.ImFault.{ImFault}
use Rattle.mt_im_out.specs.Chunks.{chunks_of}
use Rattle.mt_model.specs.declared.messages.message.Payload.{Payload}
use Rattle.mt_model.specs.declared.messages.message.Reply.{Reply}
use Rattle.mt_model.specs.declared.messages.message.Request.{Request}
use Rattle.mt_model.specs.declared.messages.message.Request.TheVariants as requests
use Rattle.mt_model.specs.declared.node.action.Action.TheVariants as actions
use Rattle.mt_model.specs.declared.node.state.NodeState.{NodeState}
use Rattle.mt_model.specs.declared.tables.access.Actor.{Actor}
use Rattle.mt_model.specs.declared.tables.access.Auth.TheVariants.{Case}
use Rattle.mt_model.specs.declared.texts.config.SessionRow.{SessionRow}
use Rattle.mt_model.specs.declared.texts.recording.Sent.{Sent}
use Rattle.mt_model.specs.declared.texts.recording.To.TheVariants.{Session}
use Rattle.mt_outside.specs.declared.network.Peer.{Peer}
use Rattle.mt_exchange.specs.declared.exchange.Key.{Key}
use Rattle.mt_talk.specs.Hearing.{Said, after_datagram, answers, asks, confirms, ends, nothing, said}
use Rattle.mt_subs.specs.Subscriptions.{kept_at}
use Rattle.mt_subs.specs.declared.subscription.SubState.{SubState}
pub use Rattle.mt_talk.specs.Naming.{session_in, session_named}
use Rattle.mt_talk.specs.Talks.{Talk, after_answer, after_resend, answer_in, ended_in, resent_in, sent_by}
use Rattle.mt_machine.specs.Environment.{Environment}
use Rattle.mt_machine.specs.Lines.{action_of, fault_reply, later_by}
use Rattle.mt_machine.specs.Step.{is_late}
use Rattle.mt_ledger.specs.Asking.{full_reply}
use Rattle.mt_ledger.specs.Behind.{Activity}
use Rattle.mt_ledger.specs.Behind as doings
use Rattle.mt_ledger.specs.Ledger.{Ledger}
use Rattle.mt_ledger.specs.Subscribing.{confirm_reply}
use Rattle.mt_runs.specs.Whole.{SessionTalk, fabric_over, is_live}

-- What it says to the node, and the talk behind it.

abbrev pub said_to : NodeState → List ℕ → SessionTalk → Said
said_to s bytes t = said t.row t.talk (is_live s t.row.session) bytes

abbrev pub heard : NodeState → Peer → List ℕ → SessionTalk → Talk
heard s from bytes t = after_datagram t.row (is_live s t.row.session) from bytes t.talk

-- What it does: it asks; it confirms the last payload of a report, or another message ends the subscription of that, which is of the fabric
-- for which the session is live.

-- who asks over a session is taken as its peer
abbrev pub actor_on : ℕ → Actor
actor_on id = record { fabric = 0; auth = Case; node = 0; cats = replicate 3 0; session = Some id }

abbrev pub ending : ℕ → Option ℕ → Activity
ending fabric None = doings.acts actions.Nothing
ending fabric (Some subscription) = doings.ends fabric (subscription ∷ [])

abbrev pub activity_said : NodeState → ℕ → Said → Activity
activity_said s id (asks key acknowledge opcode payload timed) = doings.acts (action_of (actor_on id) timed (request_in opcode payload))
activity_said s id (confirms key acknowledge subscription) = doings.confirms (fabric_over s id) subscription
activity_said s id (ends key acknowledge subscription) = ending (fabric_over s id) subscription
activity_said s id said = doings.acts actions.Nothing

-- What is replied to what is asked over a session. The deadline of a request is that of its exchange.
abbrev pub reply_over : Environment → NodeState → Ledger → ℕ → Option ℕ → ℕ → Result Request ImFault → Reply
reply_over given s l id timed ms (Ok request) = full_reply given s l (actions.Ask (actor_on id) request timed) ms
reply_over given s l id timed ms (Err fault) = fault_reply fault

-- the answer to what sets a time, in time, carries until when the next request of the exchange must come
abbrev pub deadline_set : Option ℕ → ℕ → Result Request ImFault → Option ℕ
deadline_set timed ms (Ok (requests.Timed wait)) = if is_late timed ms then None else Some (later_by wait ms)
deadline_set timed ms asked = None

abbrev pub dated : Option ℕ → List Payload → List Payload
dated None payloads = payloads
dated until payloads = map (λ (payload : Payload). record payload { deadline = until }) payloads

abbrev pub payloads_over : Environment → NodeState → Ledger → ℕ → Option ℕ → ℕ → Result Request ImFault → List Payload
payloads_over given s l id timed ms asked = dated (deadline_set timed ms asked) (chunks_of (reply_over given s l id timed ms asked))

-- The confirmation of a first report is answered that the subscription stands.
abbrev pub payloads_confirmed : ℕ → ℕ → SubState → List Payload
payloads_confirmed fabric subscription subs = chunks_of (confirm_reply subscription (kept_at fabric subscription subs))

-- The answer: on this exchange, with this acknowledgement, these payloads.
pub record Answer : Type 0 where
  pub key : Key
  pub acknowledge : Option ℕ
  pub payloads : List Payload

abbrev pub answer_to : Environment → NodeState → Ledger → ℕ → ℕ → Said → Option Answer
answer_to given s l id ms nothing = None
answer_to given s l id ms (asks key acknowledge opcode payload timed) =
    Some (record { key = key; acknowledge = acknowledge; payloads = payloads_over given s l id timed ms (request_in opcode payload) })
answer_to given s l id ms (confirms key acknowledge subscription) = Some (record { key = key; acknowledge = acknowledge; payloads = payloads_confirmed (fabric_over s id) subscription l.subs })
answer_to given s l id ms (ends key acknowledge subscription) = Some (record { key = key; acknowledge = acknowledge; payloads = [] })
answer_to given s l id ms (answers key acknowledge payloads) = Some (record { key = key; acknowledge = acknowledge; payloads = payloads })

-- the datagram that it sends, and the talk behind it

abbrev pub datagram_of : SessionRow → Talk → Option Answer → Option (List ℕ)
datagram_of row t None = None
datagram_of row t (Some answer) = sent_by (answer_in row t answer.key answer.acknowledge answer.payloads)

abbrev pub behind_answer : SessionRow → ℕ → Talk → Option Answer → Talk
behind_answer row ms t None = t
behind_answer row ms t (Some answer) = after_answer row answer.key answer.acknowledge answer.payloads ms t

-- Where all of a session is sent to: from where its latest fresh message came.

abbrev pub sent_at : ℕ → ℕ → Peer → List ℕ → Sent
sent_at ms id peer bytes = record { ms = ms; to = Session id peer; bytes = bytes }

abbrev pub all_sent : ℕ → ℕ → Option Peer → List (List ℕ) → List Sent
all_sent ms id None datagrams = []
all_sent ms id (Some peer) datagrams = map (sent_at ms id peer) datagrams

abbrev pub if_any : Option (List ℕ) → List (List ℕ)
if_any None = []
if_any (Some bytes) = bytes ∷ []

-- WHAT A DATAGRAM SENDS over the session of this talk, and the talk behind that.

abbrev pub its_answer : Environment → NodeState → Ledger → ℕ → List ℕ → SessionTalk → Option Answer
its_answer given s l ms bytes t = answer_to given s l t.row.session ms (said_to s bytes t)

abbrev pub sent_over : Environment → NodeState → Ledger → ℕ → Peer → List ℕ → SessionTalk → List Sent
sent_over given s l ms from bytes t = all_sent ms t.row.session (heard s from bytes t).latest (if_any (datagram_of t.row (heard s from bytes t) (its_answer given s l ms bytes t)))

abbrev pub talked : Environment → NodeState → Ledger → ℕ → Peer → List ℕ → SessionTalk → Talk
talked given s l ms from bytes t = behind_answer t.row ms (heard s from bytes t) (its_answer given s l ms bytes t)

-- What is sent again, over a session that is live, and the talk behind that.
abbrev pub resent_over : NodeState → ℕ → SessionTalk → List Sent
resent_over s ms t = if is_live s t.row.session then all_sent ms t.row.session t.talk.latest (resent_in t.row ms t.talk) else []

abbrev pub resent_talk : NodeState → ℕ → SessionTalk → Talk
resent_talk s ms t = if is_live s t.row.session then after_resend ms t.talk else t.talk

-- The subscriptions end whose reports were sent again in vain.
abbrev pub activity_resent : NodeState → ℕ → SessionTalk → Activity
activity_resent s ms t = if is_live s t.row.session then doings.ends (fabric_over s t.row.session) (ended_in t.row ms t.talk) else doings.acts actions.Nothing
