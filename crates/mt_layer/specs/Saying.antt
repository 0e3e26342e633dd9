-- What a worker says over a session, and the talk behind that, told by the answer of the shared node to its deed.
use Rattle.std.specs.Prelude.{ℕ, ◌==◌, true, List, [], Option, Some, None, if◌then◌else◌}
use Rattle.std.specs.List.{list_any}
use Rattle.mt_im_out.specs.Chunks.{chunks_of}
use Rattle.mt_model.specs.declared.texts.config.SessionRow.{SessionRow}
use Rattle.mt_model.specs.declared.texts.recording.Sent.{Sent}
use Rattle.mt_outside.specs.declared.network.Peer.{Peer}
use Rattle.mt_talk.specs.Hearing.{after_datagram}
use Rattle.mt_talk.specs.Talks.{Talk, after_drop, after_report, after_resend, report_in, resent_in, sent_by}
use Rattle.mt_shared.specs.mt_runs.Datagrams.{Answer, all_sent, behind_answer, datagram_of, if_any}
use Rattle.mt_shared.specs.declared.entry.Answer as shared
use Rattle.mt_layer.specs.Answering.{answered_with}
use Rattle.mt_layer.specs.Deeds.{said_as_live}

-- whether the session was live as the deed was done: the answer then names the fabric for which it was
abbrev pub if_live : {A : Type 0} → Option ℕ → A → A → A
if_live None living silent = silent
if_live (Some fabric) living silent = living

-- Where the session has ended with the deed, nothing is to be sent, owed or awaited over it any more.
abbrev pub unless_closed : List ℕ → ℕ → Talk → Talk
unless_closed closed id t = if list_any (λ (other : ℕ). other == id) closed then after_drop t else t

-- WHAT IS ANSWERED OVER THE SESSION, behind what was heard: where it was not live nothing is sent, and nothing stays open.

abbrev pub sent_answering : SessionRow → ℕ → shared.Answer → Option Answer → Talk → List Sent
sent_answering row ms answer said heard = if_live answer.fabric (all_sent ms row.session heard.latest (if_any (datagram_of row heard said))) []

abbrev pub talk_answering : SessionRow → ℕ → shared.Answer → Option Answer → Talk → Talk
talk_answering row ms answer said heard = if_live answer.fabric (unless_closed answer.closed row.session (behind_answer row ms heard said)) (after_drop heard)

-- A DATAGRAM from there, heard as if the session were live

abbrev pub heard_as_live : SessionRow → Peer → List ℕ → Talk → Talk
heard_as_live row from bytes t = after_datagram row true from bytes t

abbrev pub sent_heard : SessionRow → ℕ → Peer → List ℕ → shared.Answer → Talk → List Sent
sent_heard row ms from bytes answer t = sent_answering row ms answer (answered_with ms answer.reply (said_as_live row bytes t)) (heard_as_live row from bytes t)

abbrev pub talk_heard : SessionRow → ℕ → Peer → List ℕ → shared.Answer → Talk → Talk
talk_heard row ms from bytes answer t = talk_answering row ms answer (answered_with ms answer.reply (said_as_live row bytes t)) (heard_as_live row from bytes t)

-- A RESEND STEP

abbrev pub sent_again : SessionRow → ℕ → shared.Answer → Talk → List Sent
sent_again row ms answer t = if_live answer.fabric (all_sent ms row.session t.latest (resent_in row ms t)) []

abbrev pub talk_again : SessionRow → ℕ → shared.Answer → Talk → Talk
talk_again row ms answer t = if_live answer.fabric (unless_closed answer.closed row.session (after_resend ms t)) (after_drop t)

-- A REPORT STEP to a subscription. Where nothing is due the node replies nothing: then nothing is sent, and the talk goes on as it was.

abbrev pub sent_report : SessionRow → ℕ → shared.Answer → Talk → List Sent
sent_report row ms answer t = all_sent ms row.session t.latest (if_any (sent_by (report_in row t (chunks_of answer.reply))))

abbrev pub talk_report : SessionRow → ℕ → ℕ → shared.Answer → Talk → Talk
talk_report row ms subscription answer t = unless_closed answer.closed row.session (after_report row subscription (chunks_of answer.reply) ms t)
