-- A line leaves talks of which what is shown tells the rest.
use Rattle.std.proofs.Common.{◌≡◌, ◌≢◌, ℕ, ◌+◌, ◌==◌, Bool, true, false, List, [], ◌∷◌, Option, Some, None, Err, refl, sym, subst, inl, inr, map, if◌then◌else◌}
use Rattle.std.proofs.lemmas.Bool.{cases_Bool}
use Rattle.std.specs.List.{AllByRecursion, find, list_any}
use Rattle.mt_im.specs.Reading.{request_in}
use Rattle.mt_im_out.specs.Chunks.{chunks_of}
use Rattle.mt_model.specs.declared.messages.message.Payload.{Payload}
use Rattle.mt_model.specs.declared.messages.message.Reply.{Reply}
use Rattle.mt_model.specs.declared.node.state.NodeState.{NodeState}
use Rattle.mt_model.specs.declared.texts.config.SessionRow.{SessionRow}
use Rattle.mt_model.specs.declared.texts.recording.Event.{Event}
use Rattle.mt_model.specs.declared.texts.recording.Event.TheVariants as events
use Rattle.mt_outside.specs.declared.network.Peer.{Peer}
use Rattle.mt_session.specs.declared.fault.SealFault.TheVariants.{TooLong}
use Rattle.mt_exchange.specs.Retold.{AwaitsAll}
use Rattle.mt_talk.specs.Hearing.{Said, answers, asks, confirms, ends, nothing}
use Rattle.mt_talk.specs.Retold.{BegunTalkIsRetold, DroppedTalksAreRetold, HeardTalksAreRetold, IsRetoldTalk, ReportedTalksAreRetold, ResentTalksAreRetold, answer_said, behind_said}
use Rattle.mt_talk.specs.Talks.{Talk, after_drop, after_resend}
use Rattle.mt_machine.specs.Environment.{Environment}
use Rattle.mt_machine.specs.Step.{closed_between}
use Rattle.mt_ledger.specs.Ledger.{Ledger}
use Rattle.mt_ledger.specs.Reporting.{Due, due_now, due_report}
use Rattle.mt_runs.specs.Course.{Course, behind_course, course, goes, stepped, stops, surviving}
use Rattle.mt_runs.specs.Datagrams.{answer_to, behind_answer, heard, its_answer, payloads_confirmed, payloads_over, resent_talk, said_to, session_named, talked}
use Rattle.mt_runs.specs.Lines.{reported_talk, state_behind, talks_behind, talks_due, talks_told, with_next}
use Rattle.mt_runs.specs.Retold.{AreRetold, IsRetoldSession, IsToldAnswer, IsToldLine, IsToldOnWay, IsToldOver, IsToldReport, LinesKeepRetold, RunsKeepRetold, SessionsBeginRetold}
use Rattle.mt_runs.specs.Whole.{SessionTalk, Whole, begun_in, fabric_over, is_live, is_of_boot, is_talk_of, talk_of, with_talk, without_ended}
use Rattle.mt_runs.proofs.Talks.{found_id}

abbrev All : List SessionTalk → Type 0
All talks = AllByRecursion IsRetoldSession talks

-- The talk that is found is one of them, and another is put in its place.

found_told : (id : ℕ) (t : SessionTalk) (talks : List SessionTalk) → find (is_talk_of id) talks ≡ Some t → All talks → IsRetoldSession t
found_told id t [] found all = absurd (cc)
found_told id t (x ∷ talks) found all = elim (cases_Bool (is_talk_of id x)) [
  | inl its ↦
      let here : Some x ≡ Some t = subst (λ b. (if b then Some x else find (is_talk_of id) talks) ≡ Some t) its found in
      let same : x ≡ t = cc in
      subst IsRetoldSession same all.0
  | inr other ↦ found_told id t talks (subst (λ b. (if b then Some x else find (is_talk_of id) talks) ≡ Some t) other found) all.1
]

replaced_told : (id : ℕ) (new : Talk) (t : SessionTalk) (talks : List SessionTalk) → find (is_talk_of id) talks ≡ Some t → IsRetoldSession (record t { talk = new }) → All talks → All (with_talk id new talks)
replaced_told id new t [] found is all = tt
replaced_told id new t (x ∷ talks) found is all = elim (cases_Bool (is_talk_of id x)) [
  | inl its ↦
      let here : Some x ≡ Some t = subst (λ b. (if b then Some x else find (is_talk_of id) talks) ≡ Some t) its found in
      let same : x ≡ t = cc in
      rw its (subst (λ (y : SessionTalk). IsRetoldSession (record y { talk = new })) (sym same) is, all.1)
  | inr other ↦ rw other (all.0, replaced_told id new t talks (subst (λ b. (if b then Some x else find (is_talk_of id) talks) ≡ Some t) other found) is all.1)
]

next_told : (behind : SessionTalk → Talk) (talks : List SessionTalk) (named : Option ℕ) (t : Option SessionTalk) → talk_of named talks ≡ t
    → ((x : SessionTalk) → t ≡ Some x → IsRetoldSession x → IsRetoldSession (record x { talk = behind x })) → All talks → All (with_next behind t talks)
next_told behind talks named None is each all = all
next_told behind talks None (Some x) is each all = absurd (cc)
next_told behind talks (Some id) (Some x) is each all =
    let its : find (is_talk_of x.row.session) talks ≡ Some x = subst (λ (n : ℕ). find (is_talk_of n) talks ≡ Some x) (sym (found_id id talks x is)) is in
    replaced_told x.row.session (behind x) x talks its (each x refl (found_told id x talks is all)) all

-- A datagram is heard and answered.

abbrev payloads_said : Environment → NodeState → Ledger → ℕ → ℕ → Said → List Payload
payloads_said given s l id ms (asks key acknowledge opcode payload timed) = payloads_over given s l id timed ms (request_in opcode payload)
payloads_said given s l id ms (confirms key acknowledge subscription) = payloads_confirmed (fabric_over s id) subscription l.subs
payloads_said given s l id ms said = []

said_awaits : (given : Environment) (s : NodeState) (l : Ledger) (row : SessionRow) (t : Talk) (id ms : ℕ) (it : Said) → IsToldAnswer row t (answer_to given s l id ms it)
    → AwaitsAll (payloads_said given s l id ms it)
said_awaits given s l row t id ms nothing is = tt
said_awaits given s l row t id ms (asks key acknowledge opcode payload timed) is = is.0
said_awaits given s l row t id ms (confirms key acknowledge subscription) is = is.0
said_awaits given s l row t id ms (ends key acknowledge subscription) is = tt
said_awaits given s l row t id ms (answers key acknowledge own) is = tt

said_fits : (given : Environment) (s : NodeState) (l : Ledger) (row : SessionRow) (t : Talk) (id ms : ℕ) (it : Said) → IsToldAnswer row t (answer_to given s l id ms it)
    → answer_said row t (payloads_said given s l id ms it) it ≢ Err TooLong
said_fits given s l row t id ms nothing is = λ e. absurd (cc)
said_fits given s l row t id ms (asks key acknowledge opcode payload timed) is = is.1
said_fits given s l row t id ms (confirms key acknowledge subscription) is = is.1
said_fits given s l row t id ms (ends key acknowledge subscription) is = is.1
said_fits given s l row t id ms (answers key acknowledge own) is = is.1

said_behind : (given : Environment) (s : NodeState) (l : Ledger) (row : SessionRow) (t : Talk) (id ms : ℕ) (it : Said)
    → behind_said row ms t (payloads_said given s l id ms it) it ≡ behind_answer row ms t (answer_to given s l id ms it)
said_behind given s l row t id ms nothing = refl
said_behind given s l row t id ms (asks key acknowledge opcode payload timed) = refl
said_behind given s l row t id ms (confirms key acknowledge subscription) = refl
said_behind given s l row t id ms (ends key acknowledge subscription) = refl
said_behind given s l row t id ms (answers key acknowledge own) = refl

talked_told : HeardTalksAreRetold → (given : Environment) (s : NodeState) (l : Ledger) (ms : ℕ) (from : Peer) (bytes : List ℕ) (t : SessionTalk)
    → IsToldAnswer t.row (heard s from bytes t) (its_answer given s l ms bytes t) → IsRetoldSession t → IsRetoldSession (record t { talk = talked given s l ms from bytes t })
talked_told law given s l ms from bytes t told is =
    let id = t.row.session in
    let it = said_to s bytes t in
    let before = heard s from bytes t in
    subst (IsRetoldTalk t.row) (said_behind given s l t.row before id ms it)
    (law t.row (is_live s id) from bytes (payloads_said given s l id ms it) ms t.talk is (said_awaits given s l t.row before id ms it told) (said_fits given s l t.row before id ms it told))

-- What is sent again.
again_told : ResentTalksAreRetold → (s : NodeState) (ms : ℕ) (t : SessionTalk) → IsRetoldSession t → IsRetoldSession (record t { talk = resent_talk s ms t })
again_told law s ms t is = by_test (is_live s t.row.session)
  where
    by_test : (live : Bool) → IsRetoldTalk t.row (if live then after_resend ms t.talk else t.talk)
    by_test true = law t.row ms t.talk is
    by_test false = is

-- A report.
report_told : ReportedTalksAreRetold → (ms id : ℕ) (report : Reply) (talks : List SessionTalk) (over : Option ℕ) → AwaitsAll (chunks_of report) → All talks → All (talks_told ms id report talks over)
report_told law ms id report talks None awaits all = all
report_told law ms id report talks (Some session) awaits all =
    next_told (reported_talk ms id report) talks (Some session) (talk_of (Some session) talks) refl (λ x found its. law x.row id (chunks_of report) ms x.talk its awaits) all

due_told : ReportedTalksAreRetold → (s : NodeState) (l : Ledger) (talks : List SessionTalk) (ms fabric id : ℕ) (due : Option Due) → IsToldReport s l fabric id due → All talks
    → All (talks_due s l talks ms fabric id due)
due_told law s l talks ms fabric id None awaits all = all
due_told law s l talks ms fabric id (Some due) awaits all = report_told law ms id (due_report s l.history fabric id due) talks due.kept.sub.actor.session awaits all

-- Sessions that end.
gone_told : DroppedTalksAreRetold → (closed : List ℕ) (talks : List SessionTalk) → All talks → All (map (without_ended closed) talks)
gone_told law closed [] all = tt
gone_told law closed (t ∷ talks) all = (by_test (list_any (λ (other : ℕ). other == t.row.session) closed), gone_told law closed talks all.1)
  where
    by_test : (has_ended : Bool) → IsRetoldSession (if has_ended then record t { talk = after_drop t.talk } else t)
    by_test true = law t.row t.talk all.0
    by_test false = all.0

-- What a boot begins with.
begun_told : BegunTalkIsRetold → (boot : ℕ) (rows : List SessionRow) → All (begun_in boot rows)
begun_told law boot [] = tt
begun_told law boot (row ∷ rows) = elim (cases_Bool (is_of_boot boot row)) [
  | inl its ↦ rw its (law row, begun_told law boot rows)
  | inr other ↦ rw other (begun_told law boot rows)
]

pub begins : BegunTalkIsRetold → SessionsBeginRetold
begins law boot ceiling fabrics entries sessions = begun_told law boot sessions

module _ (hears : HeardTalksAreRetold) (reports : ReportedTalksAreRetold) (resends : ResentTalksAreRetold) (drops : DroppedTalksAreRetold) where
  heard_told : (given : Environment) (w : Whole) (ms : ℕ) (from : Peer) (bytes : List ℕ) (t : Option SessionTalk) → talk_of (session_named bytes) w.talks ≡ t
      → IsToldOver given w.state.node w.ledger ms from bytes t → All w.talks → All (with_next (talked given w.state.node w.ledger ms from bytes) t w.talks)
  heard_told given w ms from bytes None is told all = all
  heard_told given w ms from bytes (Some t) is told all =
      next_told (talked given w.state.node w.ledger ms from bytes) w.talks (session_named bytes) (Some t) is
      (λ x found its.
      let same : t ≡ x = cc in
      talked_told hears given w.state.node w.ledger ms from bytes x
      (subst (λ (y : SessionTalk). IsToldAnswer y.row (heard w.state.node from bytes y) (its_answer given w.state.node w.ledger ms bytes y)) same told) its) all

  behind_told : (given : Environment) (w : Whole) (e : Event) → IsToldLine given w e → AreRetold w → All (talks_behind given w e)
  behind_told given w (events.Ask ms fabric node cats opcode payload) told all = all
  behind_told given w (events.Datagram ms from bytes) told all = heard_told given w ms from bytes (talk_of (session_named bytes) w.talks) refl told all
  behind_told given w (events.Tick ms) told all = all
  behind_told given w (events.Report ms fabric id) told all = due_told reports w.state.node w.ledger w.talks ms fabric id (due_now w.state.node w.ledger ms fabric id) told all
  behind_told given w (events.Resend ms session) told all =
      next_told (resent_talk w.state.node ms) w.talks (Some session) (talk_of (Some session) w.talks) refl (λ x found its. again_told resends w.state.node ms x its) all
  behind_told given w (events.Stop calls fate) told all = all

  pub lines : LinesKeepRetold
  lines given w e told all = gone_told drops (closed_between w.state.node.sessions (state_behind given w e).node.sessions) (talks_behind given w e) (behind_told given w e told all)

  -- a line on its way, behind which a boot may begin

  course_told : BegunTalkIsRetold → (given : Environment) (sessions : List SessionRow) (w : Whole) (e : Event) (c : Course) → IsToldOnWay given w e c → AreRetold w → AreRetold (behind_course given sessions w e c).whole
  course_told begun given sessions w e (goes stop) told all = lines given w e told all
  course_told begun given sessions w e (stops line survived) told all = begun_told begun ((surviving given w e survived).state.node.boot + 1) sessions

  pub runs : BegunTalkIsRetold → RunsKeepRetold
  runs begun given sessions g [] told all = all
  runs begun given sessions g (e ∷ es) told all = runs begun given sessions (stepped given sessions g e) es told.1 (course_told begun given sessions g.whole e (course given g e) told.0 all)
