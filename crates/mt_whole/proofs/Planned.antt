-- From what comes over one session to what comes of a line.
use Rattle.std.proofs.Common.{◌≡◌, ℕ, inl, inr, Bool, true, false, List, [], ◌∷◌, Option, Some, None, Result, Ok, Err, IfOk, refl, sym, ap, subst, ◌∙◌, map, if◌then◌else◌}
use Rattle.std.proofs.lemmas.Bool.{cases_Bool, eqb-true}
use Rattle.std.specs.List.{find}
use Rattle.mt_im.specs.Reading.{request_in}
use Rattle.mt_im_out.specs.Chunks.{chunks_of}
use Rattle.mt_model.specs.declared.messages.message.Payload.{Payload}
use Rattle.mt_model.specs.declared.messages.message.Reply.{Reply}
use Rattle.mt_model.specs.declared.node.action.Action.TheVariants as actions
use Rattle.mt_model.specs.declared.node.state.NodeState.{NodeState}
use Rattle.mt_model.specs.declared.texts.recording.Event.{Event}
use Rattle.mt_model.specs.declared.texts.recording.Event.TheVariants as events
use Rattle.mt_model.specs.declared.texts.recording.Sent.{Sent}
use Rattle.mt_outside.specs.declared.network.Peer.{Peer}
use Rattle.mt_exchange.specs.declared.exchange.Key.{Key}
use Rattle.mt_talk.specs.Hearing.{Said}
use Rattle.mt_talk.specs.Talks.{Talk, after_report, after_resend, ended_in, report_in, resent_in, sent_by}
use Rattle.mt_interactions.specs.mt_machine.Environment.{Environment}
use Rattle.mt_interactions.specs.mt_machine.Lines.{behind_action, line_actor}
use Rattle.mt_interactions.specs.mt_machine.State.{State}
use Rattle.mt_interactions.specs.mt_machine.Step.{Aside, closed_between}
use Rattle.mt_interactions.specs.mt_ledger.Behind.{acts, action_in, ends, ledger_behind, reports}
use Rattle.mt_interactions.specs.mt_ledger.Ledger.{Ledger}
use Rattle.mt_interactions.specs.mt_ledger.Reporting.{Due, due_now, due_report}
use Rattle.mt_interactions.specs.mt_runs.Datagrams.{Answer, all_sent, answer_to, datagram_of, activity_said, heard, if_any, its_answer, resent_talk, sent_over, session_named, talked}
use Rattle.mt_interactions.specs.mt_runs.Lines as lines
use Rattle.mt_interactions.specs.mt_runs.Lines.{activity_again, activity_named, ledger_after, next, resent_named, sent_asked, sent_due, sent_named, sent_to, state_behind, talks_behind, talks_due, talks_told, with_next}
use Rattle.mt_interactions.specs.mt_runs.Whole.{SessionTalk, Whole, fabric_over, is_live, is_talk_of, talk_of, with_talk, without_ended}
use Rattle.mt_whole.specs.declared.outcome.WholeOutcome.{WholeOutcome}
use Rattle.mt_whole.specs.declared.talks.SessionTalk as code
use Rattle.mt_interactions.specs.Plan as interactions
use Rattle.mt_interactions.specs.Plan.{IsDone, IsLine, IsTick, applied_ledger, applied_state}
use Rattle.mt_interactions.specs.Reporting.{payloads_if_session, reported_over, sent_if_plain, sent_plainly}
use Rattle.mt_interactions.specs.declared.outcome.InteractionOutcome.{InteractionOutcome}
use Rattle.mt_whole.specs.declared.datagrams.Answering.{Answering}
use Rattle.mt_whole.specs.Plan.{Brings, IsAgain, IsAnswered, IsHeard, IsNewTalk, IsPlainly, IsPlan, IsPlanned, IsQuiet, IsTalkBehind, IsToldOver, answer_as, fresh_by_line, fresh_named, told_fresh}
use Rattle.mt_whole.specs.Talks.{AreTalks, IsFoundAs, IsTalkAt, is_code_of, put}
use Rattle.mt_whole.proofs.Listed.{found_as, put_as, some_is, with_same}

-- The one that is found is of that id.
pub found_is : (id : ℕ) (t : SessionTalk) (ts : List SessionTalk) → find (is_talk_of id) ts ≡ Some t → t.row.session ≡ id
found_is id t [] is = absurd (cc)
found_is id t (one ∷ ts) is = elim (cases_Bool (is_talk_of id one)) [
  | inl here ↦
      let same : one ≡ t = some_is one t (sym (ap (λ (b : Bool). if b then Some one else find (is_talk_of id) ts) here) ∙ is) in
      subst (λ (x : SessionTalk). x.row.session ≡ id) same (eqb-true _ _ here)
  | inr other ↦ found_is id t ts (sym (ap (λ (b : Bool). if b then Some one else find (is_talk_of id) ts) other) ∙ is)
]

-- Its talk is replaced.
pub replaced : (id : ℕ) (o : Option code.SessionTalk) (t : SessionTalk) (talk : Talk) (talks : List code.SessionTalk) (ts : List SessionTalk) → find (is_talk_of id) ts ≡ Some t → IsNewTalk o t talk → AreTalks talks ts
    → AreTalks (put o talks) (with_talk t.row.session talk ts)
replaced id None t talk talks ts is new are = absurd new
replaced id (Some made) t talk talks ts is new are =
    let its : t.row.session ≡ id = found_is id t ts is in
    put_as made t t.row.session talk talks ts are (subst (λ (n : ℕ). find (is_talk_of n) ts ≡ Some t) (sym its) is) new.0 refl new.1

-- It is replaced, or stays.
pub replaced_or_same : (id : ℕ) (o : Option code.SessionTalk) (t : SessionTalk) (talk : Talk) (talks : List code.SessionTalk) (ts : List SessionTalk) → find (is_talk_of id) ts ≡ Some t → IsTalkBehind o t talk → AreTalks talks ts
    → AreTalks (put o talks) (with_talk t.row.session talk ts)
replaced_or_same id None t talk talks ts is stays are =
    let its : t.row.session ≡ id = found_is id t ts is in
    let same : with_talk t.row.session talk ts ≡ ts =
    ap (λ (x : Talk). with_talk t.row.session x ts) stays ∙ with_same t.row.session t ts (subst (λ (n : ℕ). find (is_talk_of n) ts ≡ Some t) (sym its) is) in
    subst (λ (all : List SessionTalk). AreTalks talks all) (sym same) are
replaced_or_same id (Some made) t talk talks ts is new are = replaced id (Some made) t talk talks ts is new are

-- A datagram that names no session of the boot.
pub unheard : (given : Environment) (w : Whole) (ms : ℕ) (from : Peer) (bytes : List ℕ) (outcome : WholeOutcome) → talk_of (session_named bytes) w.talks ≡ None → IsQuiet given w.state w.ledger ms outcome
    → IsPlan given w (events.Datagram ms from bytes) outcome
unheard given w ms from bytes outcome none quiet = record {
  sent = quiet.sent ∙ ap (sent_named given w.state.node w.ledger ms from bytes) (sym none);
  brings = record {
    fresh = ap told_fresh quiet.fresh ∙ ap (fresh_named bytes) (sym none);
    state = quiet.state ∙ ap (λ (o : Option SessionTalk). behind_action given w.state (action_in (activity_named w.state.node bytes o)) ms) (sym none);
    ledger = quiet.ledger ∙ ap (λ (o : Option SessionTalk). ledger_behind given w.state.node (activity_named w.state.node bytes o) ms w.ledger) (sym none);
    talks = λ talks are. subst (λ (o : Option code.SessionTalk). AreTalks (put o talks) (with_next (talked given w.state.node w.ledger ms from bytes) (talk_of (session_named bytes) w.talks) w.talks)) (sym quiet.talk)
        (subst (λ (o : Option SessionTalk). AreTalks talks (with_next (talked given w.state.node w.ledger ms from bytes) o w.talks)) (sym none) are);
  };
}

-- A datagram that names a session, by what that hears.
pub heard_as_planned : (given : Environment) (w : Whole) (ms : ℕ) (from : Peer) (bytes : List ℕ) (id : ℕ) (t : SessionTalk) (outcome : WholeOutcome) → session_named bytes ≡ Some id → find (is_talk_of id) w.talks ≡ Some t
    → IsHeard given w.state w.ledger ms from bytes t outcome → IsPlan given w (events.Datagram ms from bytes) outcome
heard_as_planned given w ms from bytes id t outcome named is hears =
    let at : talk_of (session_named bytes) w.talks ≡ Some t = ap (λ (n : Option ℕ). talk_of n w.talks) named ∙ is in
    record {
      sent = hears.sent ∙ ap (sent_named given w.state.node w.ledger ms from bytes) (sym at);
      brings = record {
        fresh = hears.fresh ∙ ap (fresh_named bytes) (sym at);
        state = hears.state ∙ ap (λ (o : Option SessionTalk). behind_action given w.state (action_in (activity_named w.state.node bytes o)) ms) (sym at);
        ledger = hears.ledger ∙ ap (λ (o : Option SessionTalk). ledger_behind given w.state.node (activity_named w.state.node bytes o) ms w.ledger) (sym at);
        talks = λ talks are. subst (λ (o : Option SessionTalk). AreTalks (put outcome.talk talks) (with_next (talked given w.state.node w.ledger ms from bytes) o w.talks)) (sym at)
            (replaced id outcome.talk t (talked given w.state.node w.ledger ms from bytes t) talks w.talks is hears.talk are);
      };
    }

-- A resend that names no session of the boot.
pub unsent : (given : Environment) (w : Whole) (ms id : ℕ) (outcome : WholeOutcome) → find (is_talk_of id) w.talks ≡ None → IsQuiet given w.state w.ledger ms outcome → IsPlan given w (events.Resend ms id) outcome
unsent given w ms id outcome none quiet = record {
  sent = quiet.sent ∙ ap (resent_named w.state.node ms) (sym none);
  brings = record {
    fresh = ap told_fresh quiet.fresh;
    state = quiet.state;
    ledger = quiet.ledger ∙ ap (λ (o : Option SessionTalk). ledger_behind given w.state.node (activity_again w.state.node ms o) ms w.ledger) (sym none);
    talks = λ talks are. subst (λ (o : Option code.SessionTalk). AreTalks (put o talks) (with_next (resent_talk w.state.node ms) (talk_of (Some id) w.talks) w.talks)) (sym quiet.talk)
        (subst (λ (o : Option SessionTalk). AreTalks talks (with_next (resent_talk w.state.node ms) o w.talks)) (sym none) are);
  };
}

pub again_as_planned : (given : Environment) (w : Whole) (ms id : ℕ) (t : SessionTalk) (outcome : WholeOutcome) → find (is_talk_of id) w.talks ≡ Some t → IsAgain given w.state w.ledger ms t outcome → IsPlan given w (events.Resend ms id) outcome
again_as_planned given w ms id t outcome is again = record {
  sent = again.sent ∙ ap (resent_named w.state.node ms) (sym is);
  brings = record {
    fresh = ap told_fresh again.fresh;
    state = again.state;
    ledger = again.ledger ∙ ap (λ (o : Option SessionTalk). ledger_behind given w.state.node (activity_again w.state.node ms o) ms w.ledger) (sym is);
    talks = λ talks are. subst (λ (o : Option SessionTalk). AreTalks (put outcome.talk talks) (with_next (resent_talk w.state.node ms) o w.talks)) (sym is)
        (replaced_or_same id outcome.talk t (resent_talk w.state.node ms t) talks w.talks is again.talk are);
  };
}

-- What is sent again.

-- over a session that is not live nothing is
pub quiet_again : (given : Environment) (s : State) (l : Ledger) (ms : ℕ) (t : SessionTalk) (outcome : WholeOutcome) → is_live s.node t.row.session ≡ false → IsQuiet given s l ms outcome → IsAgain given s l ms t outcome
quiet_again given s l ms t outcome off quiet = record {
  sent = quiet.sent ∙ ap (λ (b : Bool). if b then all_sent ms t.row.session t.talk.latest (resent_in t.row ms t.talk) else []) (sym off);
  fresh = quiet.fresh;
  state = quiet.state;
  ledger = quiet.ledger ∙ ap (λ (b : Bool). ledger_behind given s.node (if b then ends (fabric_over s.node t.row.session) (ended_in t.row ms t.talk) else acts actions.Nothing) ms l) (sym off);
  talk = subst (λ (o : Option code.SessionTalk). IsTalkBehind o t (resent_talk s.node ms t)) (sym quiet.talk) (ap (λ (b : Bool). if b then after_resend ms t.talk else t.talk) off);
}

-- over one that is live these are, and these subscriptions end
pub again_over : (given : Environment) (s : State) (l : Ledger) (ms : ℕ) (t : SessionTalk) (id : ℕ) (peer : Option Peer) (datagrams : List (List ℕ)) (ids : List ℕ) (outcome : WholeOutcome) → is_live s.node t.row.session ≡ true → id ≡ t.row.session
    → outcome.sent ≡ all_sent ms id peer datagrams → peer ≡ t.talk.latest → datagrams ≡ resent_in t.row ms t.talk → outcome.fresh ≡ None → IsDone given s l (ends (fabric_over s.node id) ids) ms outcome.interactions → ids ≡ ended_in t.row ms t.talk
    → IsTalkBehind outcome.talk t (after_resend ms t.talk) → IsAgain given s l ms t outcome
again_over given s l ms t id peer datagrams ids outcome on its sent there are fresh done ended talk = record {
  sent = sent
      ∙ ap (λ (n : ℕ). all_sent ms n peer datagrams) its
      ∙ ap (λ (o : Option Peer). all_sent ms t.row.session o datagrams) there
      ∙ ap (all_sent ms t.row.session t.talk.latest) are
      ∙ ap (λ (b : Bool). if b then all_sent ms t.row.session t.talk.latest (resent_in t.row ms t.talk) else []) (sym on);
  fresh = fresh;
  state = done.state;
  ledger = done.ledger
      ∙ ap (λ (n : ℕ). ledger_behind given s.node (ends (fabric_over s.node n) ids) ms l) its
      ∙ ap (λ (gone : List ℕ). ledger_behind given s.node (ends (fabric_over s.node t.row.session) gone) ms l) ended
      ∙ ap (λ (b : Bool). ledger_behind given s.node (if b then ends (fabric_over s.node t.row.session) (ended_in t.row ms t.talk) else acts actions.Nothing) ms l) (sym on);
  talk = subst (λ (b : Bool). IsTalkBehind outcome.talk t (if b then after_resend ms t.talk else t.talk)) (sym on) talk;
}

-- What is found of the written ones, by what is found of those of the code.

abbrev pub IsOf : Option code.SessionTalk → Option SessionTalk → Type 0
IsOf None o = o ≡ None
IsOf (Some talk) o = (t : SessionTalk) × (o ≡ Some t) × IsTalkAt talk t

pub found_of : (one : Option code.SessionTalk) (o : Option SessionTalk) → IsFoundAs one o → IsOf one o
found_of None None found = refl
found_of None (Some t) found = absurd found
found_of (Some talk) None found = absurd found
found_of (Some talk) (Some t) found = (t, refl, found)

-- What is there is of these.
pub one_found : (id : ℕ) (one : Option code.SessionTalk) (talks : List code.SessionTalk) (ts : List SessionTalk) → one ≡ find (is_code_of id) talks → AreTalks talks ts → IsOf one (find (is_talk_of id) ts)
one_found id one talks ts looked are = found_of one (find (is_talk_of id) ts) (subst (λ (o : Option code.SessionTalk). IsFoundAs o (find (is_talk_of id) ts)) (sym looked) (found_as id talks ts are))

pub if_ok : {X E : Type 0} (result : Result X E) (P Q : X → Type 0) → ((x : X) → P x → Q x) → IfOk result P → IfOk result Q
if_ok (Ok x) P Q by holds = by x holds
if_ok (Err e) P Q by holds = tt

pub if_ok_both : {X E : Type 0} (result : Result X E) (P Q R : X → Type 0) → ((x : X) → P x → Q x → R x) → IfOk result P → IfOk result Q → IfOk result R
if_ok_both (Ok x) P Q R by one other = by x one other
if_ok_both (Err e) P Q R by one other = tt

-- Where a session's datagram is sent, and which.
pub sent_as_heard : (given : Environment) (s : State) (l : Ledger) (ms : ℕ) (from : Peer) (bytes : List ℕ) (t : SessionTalk) (id : ℕ) (peer : Option Peer) (datagram : Option (List ℕ)) → id ≡ t.row.session → peer ≡ (heard s.node from bytes t).latest
    → datagram ≡ datagram_of t.row (heard s.node from bytes t) (its_answer given s.node l ms bytes t) → all_sent ms id peer (if_any datagram) ≡ sent_over given s.node l ms from bytes t
sent_as_heard given s l ms from bytes t id peer datagram its there is =
    ap (λ (n : ℕ). all_sent ms n peer (if_any datagram)) its
    ∙ ap (λ (o : Option Peer). all_sent ms t.row.session o (if_any datagram)) there
    ∙ ap (λ (o : Option (List ℕ)). all_sent ms t.row.session (heard s.node from bytes t).latest (if_any o)) is

-- An answer, by its payloads.
abbrev pub answering : Key → Option ℕ → List Payload → Option Answer
answering key acknowledge payloads = Some (record { key = key; acknowledge = acknowledge; payloads = payloads })

pub answered_with : (given : Environment) (s : State) (l : Ledger) (id ms : ℕ) (said : Said) (key : Key) (acknowledge : Option ℕ) (payloads : List Payload) (made : Answering) (outcome : InteractionOutcome)
    → made ≡ record { key = key; acknowledge = acknowledge; payloads = payloads } → answering key acknowledge payloads ≡ answer_to given s.node l id ms said → IsDone given s l (activity_said s.node id said) ms outcome
    → IsAnswered given s l id ms said (Some made, outcome)
answered_with given s l id ms said key acknowledge payloads made outcome is answer done = record {
  answer = ap (λ (x : Answering). answer_as (Some x)) is ∙ answer;
  state = done.state;
  ledger = done.ledger;
  planned = done.planned;
}

-- It was planned on the state where that was which it brings.
pub planned_so : (s : State) (l : Ledger) (made : InteractionOutcome) (outcome : WholeOutcome) → outcome.interactions ≡ made → interactions.IsPlanned s l made → IsPlanned s l outcome
planned_so s l made outcome same planned = subst (interactions.IsPlanned s l) (sym same) planned

-- What is of no session.

pub plainly_as_planned : (given : Environment) (w : Whole) (event : Event) (messages : List Sent) (made : InteractionOutcome) (outcome : WholeOutcome) → IsPlainly messages made outcome → messages ≡ lines.sent given w event → fresh_by_line w event ≡ None
    → applied_state made w.state ≡ state_behind given w event → applied_ledger made w.state w.ledger ≡ ledger_after given w event → talks_behind given w event ≡ w.talks → IsPlan given w event outcome
plainly_as_planned given w event messages made outcome its sent_same no_fresh state_same ledger_same talks_same = record {
  sent = its.sent ∙ sent_same;
  brings = record {
    fresh = ap told_fresh its.fresh ∙ sym no_fresh;
    state = ap (λ (p : InteractionOutcome). applied_state p w.state) its.interactions ∙ state_same;
    ledger = ap (λ (p : InteractionOutcome). applied_ledger p w.state w.ledger) its.interactions ∙ ledger_same;
    talks = λ talks are. subst (λ (o : Option code.SessionTalk). AreTalks (put o talks) (talks_behind given w event)) (sym its.talk) (subst (λ (ts : List SessionTalk). AreTalks talks ts) (sym talks_same) are);
  };
}

pub asked_as_planned : (given : Environment) (w : Whole) (ms fabric node : ℕ) (cats : List ℕ) (opcode : ℕ) (payload : List ℕ) (messages : List Sent) (made : InteractionOutcome) (outcome : WholeOutcome) → IsPlainly messages made outcome
    → messages ≡ sent_asked given w.state w.ledger (line_actor fabric node cats) ms (request_in opcode payload) → IsLine given w.state w.ledger ms (line_actor fabric node cats) (request_in opcode payload) made → IsPlan given w (events.Ask ms fabric node cats opcode payload) outcome
asked_as_planned given w ms fabric node cats opcode payload messages made outcome its sends line = plainly_as_planned given w (events.Ask ms fabric node cats opcode payload) messages made outcome its sends refl line.state line.ledger refl

pub tick_as_planned : (given : Environment) (w : Whole) (ms : ℕ) (messages : List Sent) (made : InteractionOutcome) (outcome : WholeOutcome) → IsPlainly messages made outcome → messages ≡ [] → IsTick given w.state w.ledger ms made → IsPlan given w (events.Tick ms) outcome
tick_as_planned given w ms messages made outcome its none tick = plainly_as_planned given w (events.Tick ms) messages made outcome its none refl tick.state tick.ledger refl

-- A report, which is told to a plain actor, or over the session of the subscriber.

-- these payloads, over a session
abbrev pub told_to : ℕ → List Payload → Option SessionTalk → List Sent
told_to ms payloads None = []
told_to ms payloads (Some t) = all_sent ms t.row.session t.talk.latest (if_any (sent_by (report_in t.row t.talk payloads)))

abbrev pub talk_told : ℕ → ℕ → List Payload → SessionTalk → Talk
talk_told ms id payloads t = after_report t.row id payloads ms t.talk

-- nothing is told over a session: what is sent is sent at once
pub record IsToldAtOnce (at_once all : List Sent) (talks behind : List SessionTalk) : Type 0 where
  pub sent : at_once ≡ all
  pub stay : behind ≡ talks

-- these payloads are told over this session, and nothing at once
pub record IsToldTo (ms id session : ℕ) (payloads : List Payload) (at_once all : List Sent) (talks behind : List SessionTalk) : Type 0 where
  pub none : at_once ≡ []
  pub sent : all ≡ told_to ms payloads (talk_of (Some session) talks)
  pub next : behind ≡ with_next (talk_told ms id payloads) (talk_of (Some session) talks) talks

to_plain : (ms fabric id : ℕ) (report : Reply) (talks : List SessionTalk) (session : Option ℕ) → payloads_if_session report session ≡ None
    → IsToldAtOnce (sent_if_plain ms fabric report session) (sent_to ms fabric report talks session) talks (talks_told ms id report talks session)
to_plain ms fabric id report talks None none = record { sent = refl; stay = refl }
to_plain ms fabric id report talks (Some session) none = absurd (cc)

pub due_to_plain : (s : NodeState) (l : Ledger) (talks : List SessionTalk) (ms fabric id : ℕ) (due : Option Due) → reported_over s l.history fabric id due ≡ None
    → IsToldAtOnce (sent_plainly s l.history ms fabric id due) (sent_due s l talks ms fabric id due) talks (talks_due s l talks ms fabric id due)
due_to_plain s l talks ms fabric id None none = record { sent = refl; stay = refl }
due_to_plain s l talks ms fabric id (Some due) none = to_plain ms fabric id (due_report s l.history fabric id due) talks due.kept.sub.actor.session none

pair_in : ℕ × List Payload → Option (ℕ × List Payload) → ℕ × List Payload
pair_in x None = x
pair_in x (Some y) = y

pair_is : (x y : ℕ × List Payload) → Some x ≡ Some y → x ≡ y
unfolding pair_in
pair_is x y same = ap (λ (o : Option (ℕ × List Payload)). pair_in x o) same

to_session : (ms fabric id : ℕ) (report : Reply) (talks : List SessionTalk) (named : Option ℕ) (session : ℕ) (payloads : List Payload) → payloads_if_session report named ≡ Some (session, payloads)
    → IsToldTo ms id session payloads (sent_if_plain ms fabric report named) (sent_to ms fabric report talks named) talks (talks_told ms id report talks named)
to_session ms fabric id report talks None session payloads is = absurd (cc)
to_session ms fabric id report talks (Some named) session payloads is =
    let same : (named, chunks_of report) ≡ (session, payloads) = pair_is (named, chunks_of report) (session, payloads) is in
    subst (λ (x : ℕ × List Payload). IsToldTo ms id x.0 x.1 [] (sent_to ms fabric report talks (Some named)) talks (talks_told ms id report talks (Some named))) same
    (over_session ms fabric id report talks named)
  where
    over_named : (ms id : ℕ) (report : Reply) (o : Option SessionTalk) → lines.reported_over ms report o ≡ told_to ms (chunks_of report) o
    over_named ms id report None = refl
    over_named ms id report (Some t) = refl

    over_session : (ms fabric id : ℕ) (report : Reply) (talks : List SessionTalk) (named : ℕ)
        → IsToldTo ms id named (chunks_of report) [] (sent_to ms fabric report talks (Some named)) talks (talks_told ms id report talks (Some named))
    over_session ms fabric id report talks named = record { none = refl; sent = over_named ms id report (talk_of (Some named) talks); next = refl }

pub due_to_session : (s : NodeState) (l : Ledger) (talks : List SessionTalk) (ms fabric id : ℕ) (due : Option Due) (session : ℕ) (payloads : List Payload) → reported_over s l.history fabric id due ≡ Some (session, payloads)
    → IsToldTo ms id session payloads (sent_plainly s l.history ms fabric id due) (sent_due s l talks ms fabric id due) talks (talks_due s l talks ms fabric id due)
due_to_session s l talks ms fabric id None session payloads is = absurd (cc)
due_to_session s l talks ms fabric id (Some due) session payloads is = to_session ms fabric id (due_report s l.history fabric id due) talks due.kept.sub.actor.session session payloads is

-- what the interactions make of a report step
pub record IsReported (given : Environment) (s : State) (l : Ledger) (ms fabric id : ℕ) (over : Option (ℕ × List Payload)) (messages : List Sent) (outcome : InteractionOutcome) : Type 0 where
  pub due : over ≡ reported_over s.node l.history fabric id (due_now s.node l ms fabric id)
  pub sent : messages ≡ sent_plainly s.node l.history ms fabric id (due_now s.node l ms fabric id)
  pub done : IsDone given s l (reports fabric id) ms outcome

-- nothing is told over a session
pub reported_at_once : (given : Environment) (w : Whole) (ms fabric id : ℕ) (messages : List Sent) (made : InteractionOutcome) (outcome : WholeOutcome) → IsReported given w.state w.ledger ms fabric id None messages made → IsPlainly messages made outcome
    → IsPlan given w (events.Report ms fabric id) outcome
reported_at_once given w ms fabric id messages made outcome reported its =
    let told = due_to_plain w.state.node w.ledger w.talks ms fabric id (due_now w.state.node w.ledger ms fabric id) (sym reported.due) in
    plainly_as_planned given w (events.Report ms fabric id) messages made outcome its (reported.sent ∙ told.sent) refl reported.done.state reported.done.ledger told.stay

-- it is told over a session that is none of the boot: nothing is sent
pub reported_to_nobody : (given : Environment) (w : Whole) (ms fabric id session : ℕ) (payloads : List Payload) (messages : List Sent) (made : InteractionOutcome) (outcome : WholeOutcome) → IsReported given w.state w.ledger ms fabric id (Some (session, payloads)) messages made → IsPlainly messages made outcome
    → find (is_talk_of session) w.talks ≡ None → IsPlan given w (events.Report ms fabric id) outcome
reported_to_nobody given w ms fabric id session payloads messages made outcome reported its none =
    let told = due_to_session w.state.node w.ledger w.talks ms fabric id (due_now w.state.node w.ledger ms fabric id) session payloads (sym reported.due) in
    plainly_as_planned given w (events.Report ms fabric id) messages made outcome its (reported.sent ∙ told.none ∙ ap (told_to ms payloads) (sym none) ∙ sym told.sent) refl reported.done.state reported.done.ledger
    (told.next ∙ ap (λ (o : Option SessionTalk). with_next (talk_told ms id payloads) o w.talks) none)

-- it is told over this session
pub reported_as_planned : (given : Environment) (w : Whole) (ms fabric id session : ℕ) (payloads : List Payload) (messages : List Sent) (made : InteractionOutcome) (t : SessionTalk) (outcome : WholeOutcome)
    → IsReported given w.state w.ledger ms fabric id (Some (session, payloads)) messages made → find (is_talk_of session) w.talks ≡ Some t → outcome.interactions ≡ made → IsToldOver ms id payloads t outcome → IsPlan given w (events.Report ms fabric id) outcome
reported_as_planned given w ms fabric id session payloads messages made t outcome reported is same its =
    let told = due_to_session w.state.node w.ledger w.talks ms fabric id (due_now w.state.node w.ledger ms fabric id) session payloads (sym reported.due) in
    record {
      sent = its.sent ∙ ap (told_to ms payloads) (sym is) ∙ sym told.sent;
      brings = record {
        fresh = ap told_fresh its.fresh;
        state = ap (λ (p : InteractionOutcome). applied_state p w.state) same ∙ reported.done.state;
        ledger = ap (λ (p : InteractionOutcome). applied_ledger p w.state w.ledger) same ∙ reported.done.ledger;
        talks = λ talks are. subst (λ (ts : List SessionTalk). AreTalks (put outcome.talk talks) ts) (sym (told.next ∙ ap (λ (o : Option SessionTalk). with_next (talk_told ms id payloads) o w.talks) is))
            (replaced session outcome.talk t (talk_told ms id payloads t) talks w.talks is its.talk are);
      };
    }

-- The sessions that end with an outcome.

closed_is : (s : State) (l : Ledger) (outcome : InteractionOutcome) → interactions.IsPlanned s l outcome → outcome.node.closed ≡ closed_between s.node.sessions (applied_state outcome s).node.sessions
closed_is s l outcome planned = ap (λ (a : Aside). a.closed) planned.node.1.1.1.aside ∙ ap (λ (n : NodeState). closed_between s.node.sessions n.sessions) (sym planned.node.1.1.1.state)

pub closed_behind : (given : Environment) (w : Whole) (event : Event) (outcome : WholeOutcome) → IsPlanned w.state w.ledger outcome → Brings given w event outcome
    → outcome.interactions.node.closed ≡ closed_between w.state.node.sessions (state_behind given w event).node.sessions
closed_behind given w event outcome planned brings =
    closed_is w.state w.ledger outcome.interactions planned ∙ ap (λ (x : State). closed_between w.state.node.sessions x.node.sessions) brings.state

-- The talks behind an event, of which those that end have let go.
pub talks_applied : (given : Environment) (w : Whole) (event : Event) (s : State) (l : Ledger) (outcome : WholeOutcome) (talks behind : List code.SessionTalk) (closed : List ℕ) → s ≡ w.state → IsPlanned s l outcome → Brings given w event outcome
    → AreTalks talks w.talks → closed ≡ outcome.interactions.node.closed → ((ts : List SessionTalk) → AreTalks (put outcome.talk talks) ts → AreTalks behind (map (without_ended closed) ts)) → AreTalks behind (next given w event).talks
talks_applied given w event s l outcome talks behind closed same planned brings are ended lets_go =
    let ended_is : closed ≡ closed_between w.state.node.sessions (state_behind given w event).node.sessions =
    ended
    ∙ closed_is s l outcome.interactions planned
    ∙ ap (λ (x : State). closed_between x.node.sessions (applied_state outcome.interactions x).node.sessions) same
    ∙ ap (λ (x : State). closed_between w.state.node.sessions x.node.sessions) brings.state in
    subst (λ (gone : List ℕ). AreTalks behind (map (without_ended gone) (talks_behind given w event))) ended_is (lets_go (talks_behind given w event) (brings.talks talks are))
