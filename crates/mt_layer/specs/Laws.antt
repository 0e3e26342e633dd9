-- The laws of the session layer.
use Rattle.std.specs.Prelude.{◌≡◌, ◌<◌, ℕ, Bool, true, List, Option, Some}
use Rattle.mt_model.specs.texts.Config.{none_alike}
use Rattle.mt_model.specs.declared.messages.message.Payload.{Payload}
use Rattle.mt_model.specs.declared.node.action.Action.{Action}
use Rattle.mt_model.specs.declared.node.state.NodeState.{NodeState}
use Rattle.mt_model.specs.declared.texts.config.SessionRow.{SessionRow}
use Rattle.mt_model.specs.declared.texts.recording.Event.TheVariants.{Datagram, Report as ReportLine, Resend, Tick}
use Rattle.mt_outside.specs.declared.network.Peer.{Peer}
use Rattle.mt_subs.specs.Subscriptions.{kept_at}
use Rattle.mt_subs.specs.declared.subscription.Kept.{Kept}
use Rattle.mt_talk.specs.Hearing.{Said, after_datagram, said}
use Rattle.mt_talk.specs.Talks.{Talk, after_drop, after_report, after_resend, begun_talk, ended_in, report_in, resent_in}
use Rattle.mt_shared.specs.mt_machine.Environment.{Environment}
use Rattle.mt_shared.specs.mt_machine.Step.{after_action}
use Rattle.mt_shared.specs.mt_ledger.Ledger.{Ledger}
use Rattle.mt_shared.specs.mt_runs.Datagrams.{Answer, activity_resent, activity_said, answer_to, behind_answer, datagram_of, session_named}
use Rattle.mt_shared.specs.mt_runs.Isolation.{IsValidWhole, have_one_id}
use Rattle.mt_shared.specs.mt_runs.Whole.{SessionTalk, Whole, begun, has_closed, is_live, talk_of}
use Rattle.mt_shared.specs.mt_interactions.Configured.{ConfiguredInteractions}
use Rattle.mt_shared.specs.mt_interactions.Deeds.{activity_at, replied}
use Rattle.mt_shared.specs.mt_interactions.TheVariants.{Expire, Report}
use Rattle.mt_shared.specs.Replay as shared
use Rattle.mt_layer.specs.Agreeing.{Agrees, AreAlike, Serves, has_ended}
use Rattle.mt_layer.specs.Answering.{answered_with}
use Rattle.mt_layer.specs.Deeds.{deed_again, deed_heard, deed_said}
use Rattle.mt_layer.specs.Lines.{IsLine, IsNobodysLine, whole_of}
use Rattle.mt_layer.specs.Saying.{sent_again, sent_heard, sent_report, talk_again, talk_heard, talk_report}

-- WHAT A TALK SAYS DEPENDS ON ITS RUN and on where its peer is: two that are alike hear the same, say the same, and are alike behind that.

abbrev pub HearAlike : Type 0
HearAlike = (row : SessionRow) (live : Bool) (from : Peer) (bytes : List ℕ) (u t : Talk) → AreAlike u t
    → (said row u live bytes ≡ said row t live bytes) × AreAlike (after_datagram row live from bytes u) (after_datagram row live from bytes t)

abbrev pub AnswerAlike : Type 0
AnswerAlike = (row : SessionRow) (ms : ℕ) (answer : Option Answer) (u t : Talk) → AreAlike u t
    → (datagram_of row u answer ≡ datagram_of row t answer) × AreAlike (behind_answer row ms u answer) (behind_answer row ms t answer)

abbrev pub ReportAlike : Type 0
ReportAlike = (row : SessionRow) (subscription : ℕ) (payloads : List Payload) (ms : ℕ) (u t : Talk) → AreAlike u t
    → (report_in row u payloads ≡ report_in row t payloads) × AreAlike (after_report row subscription payloads ms u) (after_report row subscription payloads ms t)

abbrev pub ResendAlike : Type 0
ResendAlike = (row : SessionRow) (ms : ℕ) (u t : Talk) → AreAlike u t
    → (resent_in row ms u ≡ resent_in row ms t) × (ended_in row ms u ≡ ended_in row ms t) × AreAlike (after_resend ms u) (after_resend ms t)

abbrev pub DropAlike : Type 0
DropAlike = (u t : Talk) → AreAlike u t → AreAlike (after_drop u) (after_drop t)

-- SESSIONS END FOR GOOD, whatever is done: one that has ended has still ended behind it, and one that was live and is not any more has ended.

abbrev pub EndedStayEnded : Type 0
EndedStayEnded = (given : Environment) (s : NodeState) (action : Action) (now id : ℕ) → has_ended s id ≡ true → has_ended (after_action given s action now) id ≡ true

abbrev pub ClosedHaveEnded : Type 0
ClosedHaveEnded = (given : Environment) (s : NodeState) (action : Action) (now id : ℕ) → none_alike have_one_id s.sessions ≡ true
    → has_closed s (after_action given s action now) id ≡ true → has_ended (after_action given s action now) id ≡ true

-- DEEDS ARE WHAT IS SAID: made of what is heard as if the session were live, a deed does what is said to the node, live or not, where the
-- worker's talk agrees with the whole's. So does the deed of a resend step, at every time before the last that can be told.

abbrev pub DeedsAreWhatIsSaid : Type 0
DeedsAreWhatIsSaid = (s : NodeState) (row : SessionRow) (u t : Talk) (bytes : List ℕ) (ms : ℕ) → Agrees (has_ended s row.session) u t
    → activity_at s (deed_heard row bytes u) ms ≡ activity_said s row.session (said row t (is_live s row.session) bytes)

abbrev pub DeedsAreWhatIsResent : Type 0
DeedsAreWhatIsResent = (s : NodeState) (row : SessionRow) (u t : Talk) (ms : ℕ) → ms < 18446744073709551615 → Agrees (has_ended s row.session) u t
    → activity_at s (deed_again row u) ms ≡ activity_resent s ms (record { row = row; talk = t })

-- REPLIES ARE ANSWERS: over a session that is live, what is answered of the reply to the deed is what the node answers to what was said.
abbrev pub RepliesAreAnswers : Type 0
RepliesAreAnswers = (given : Environment) (s : NodeState) (l : Ledger) (id ms : ℕ) (heard : Said) → is_live s id ≡ true
    → answered_with ms (replied given s l (deed_said id heard) ms) heard ≡ answer_to given s l id ms heard

-- A talk in which nothing has been said serves a session over which nothing has been.
abbrev pub BegunTalksServe : Type 0
BegunTalksServe = (w : Whole) (row : SessionRow) → talk_of (Some row.session) w.talks ≡ Some (begun row) → Serves w row begun_talk

-- LINES. What the machine sends and keeps in a line is what the worker of its session sends and keeps by the shared node's answer to its deed.

abbrev pub DatagramsAreLines : Type 0
DatagramsAreLines = (node : ConfiguredInteractions) (talks : List SessionTalk) (ms : ℕ) (from : Peer) (bytes : List ℕ) (row : SessionRow) (u : Talk)
    → IsValidWhole (whole_of node talks) → session_named bytes ≡ Some row.session → Serves (whole_of node talks) row u
    → let deed = deed_heard row bytes u in
    let answer = shared.answer_to node deed ms in
    IsLine node talks (Datagram ms from bytes) deed ms row (sent_heard row ms from bytes answer u) (talk_heard row ms from bytes answer u)

abbrev pub ResendsAreLines : Type 0
ResendsAreLines = (node : ConfiguredInteractions) (talks : List SessionTalk) (ms : ℕ) (row : SessionRow) (u : Talk)
    → IsValidWhole (whole_of node talks) → ms < 18446744073709551615 → Serves (whole_of node talks) row u
    → let deed = deed_again row u in
    let answer = shared.answer_to node deed ms in
    IsLine node talks (Resend ms row.session) deed ms row (sent_again row ms answer u) (talk_again row ms answer u)

-- a report to a subscription that, where it is there, is told over the session of this row
abbrev pub ReportsAreLines : Type 0
ReportsAreLines = (node : ConfiguredInteractions) (talks : List SessionTalk) (ms fabric subscription : ℕ) (row : SessionRow) (u : Talk)
    → IsValidWhole (whole_of node talks) → ((kept : Kept) → kept_at fabric subscription node.ledger.subs ≡ Some kept → kept.sub.actor.session ≡ Some row.session) → Serves (whole_of node talks) row u
    → let deed = Report fabric subscription in
    let answer = shared.answer_to node deed ms in
    IsLine node talks (ReportLine ms fabric subscription) deed ms row (sent_report row ms answer u) (talk_report row ms subscription answer u)

abbrev pub TicksAreLines : Type 0
TicksAreLines = (node : ConfiguredInteractions) (talks : List SessionTalk) (ms : ℕ) → IsValidWhole (whole_of node talks) → IsNobodysLine node talks (Tick ms) Expire ms
