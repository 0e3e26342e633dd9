-- A talk, retold from what is shown of it.
use Rattle.std.specs.Prelude.{◌≡◌, ◌≢◌, ℕ, Bool, List, [], Option, None, Result, Ok, Err, map}
use Rattle.mt_outside.specs.declared.network.Peer.{Peer}
use Rattle.mt_model.specs.declared.messages.message.Payload.{Payload}
use Rattle.mt_model.specs.declared.texts.config.SessionRow.{SessionRow}
use Rattle.mt_session.specs.declared.fault.SealFault.{SealFault}
use Rattle.mt_session.specs.declared.fault.SealFault.TheVariants.{TooLong}
use Rattle.mt_exchange.specs.Retold.{AwaitsAll, IsRetold, still}
use Rattle.mt_talk.specs.Hearing.{Said, after_datagram, answers, asks, confirms, ends, nothing, said}
use Rattle.mt_talk.specs.Talks.{Talk, after_answer, after_drop, after_report, after_resend, answer_in, begun_talk, run_in}

-- WHAT IS SHOWN TELLS A TALK: it tells the run of its session, but for the payloads that are kept to be sent later.
abbrev pub IsRetoldTalk : SessionRow → Talk → Type 0
IsRetoldTalk row t = IsRetold row (run_in t) t.shown

-- What is said is answered on its exchange, with these payloads where it asks or confirms. What the session says to that, and the talk behind it:

abbrev pub answer_said : SessionRow → Talk → List Payload → Said → Result (Option (List ℕ)) SealFault
answer_said row t payloads nothing = Ok None
answer_said row t payloads (asks key acknowledge opcode payload timed) = answer_in row t key acknowledge payloads
answer_said row t payloads (confirms key acknowledge subscription) = answer_in row t key acknowledge payloads
answer_said row t payloads (ends key acknowledge subscription) = answer_in row t key acknowledge []
answer_said row t payloads (answers key acknowledge own) = answer_in row t key acknowledge own

abbrev pub behind_said : SessionRow → ℕ → Talk → List Payload → Said → Talk
behind_said row now t payloads nothing = t
behind_said row now t payloads (asks key acknowledge opcode payload timed) = after_answer row key acknowledge payloads now t
behind_said row now t payloads (confirms key acknowledge subscription) = after_answer row key acknowledge payloads now t
behind_said row now t payloads (ends key acknowledge subscription) = after_answer row key acknowledge [] now t
behind_said row now t payloads (answers key acknowledge own) = after_answer row key acknowledge own now t

-- A talk in which nothing has been said is told by that, and so is a talk behind whatever is said in it:

abbrev pub BegunTalkIsRetold : Type 0
BegunTalkIsRetold = (row : SessionRow) → IsRetoldTalk row begun_talk

-- behind a datagram and what answers it at once, unless the session refuses the answer as too long
abbrev pub HeardTalksAreRetold : Type 0
HeardTalksAreRetold = (row : SessionRow) (live : Bool) (from : Peer) (bytes : List ℕ) (payloads : List Payload) (now : ℕ) (t : Talk) → IsRetoldTalk row t → AwaitsAll payloads
    → answer_said row (after_datagram row live from bytes t) payloads (said row t live bytes) ≢ Err TooLong
    → IsRetoldTalk row (behind_said row now (after_datagram row live from bytes t) payloads (said row t live bytes))

-- behind a report
abbrev pub ReportedTalksAreRetold : Type 0
ReportedTalksAreRetold = (row : SessionRow) (subscription : ℕ) (payloads : List Payload) (now : ℕ) (t : Talk) → IsRetoldTalk row t → AwaitsAll payloads
    → IsRetoldTalk row (after_report row subscription payloads now t)

-- behind what is sent again
abbrev pub ResentTalksAreRetold : Type 0
ResentTalksAreRetold = (row : SessionRow) (now : ℕ) (t : Talk) → IsRetoldTalk row t → IsRetoldTalk row (after_resend now t)

-- and once nothing is to be sent, owed or awaited any more
abbrev pub DroppedTalksAreRetold : Type 0
DroppedTalksAreRetold = (row : SessionRow) (t : Talk) → IsRetoldTalk row t → IsRetoldTalk row (after_drop t)

-- So two talks of which the same is shown, and in which the same is still to be sent, have the same open exchanges and the same next id.
abbrev pub ShownTalksAreTheSame : Type 0
ShownTalksAreTheSame = (row : SessionRow) (one other : Talk) → IsRetoldTalk row one → IsRetoldTalk row other → one.shown ≡ other.shown → map still one.open_ones ≡ map still other.open_ones
    → (one.open_ones ≡ other.open_ones) × (one.next_id ≡ other.next_id)
