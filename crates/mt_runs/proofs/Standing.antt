-- Each session has its talk, and over one that is not live nothing is open.
use Rattle.std.proofs.Common.{◌≡◌, ℕ, ◌==◌, ◌&&◌, ◌||◌, not, inl, inr, Bool, true, false, List, [], ◌∷◌, Option, Some, None, Result, Ok, Err, refl, sym, ap, ◌∙◌, subst, is_some, length, map, if◌then◌else◌}
use Rattle.std.proofs.lemmas.Bool.{and_from, and_parts, cases_Bool, eq-eqb, or_cases, or_left, or_right}
use Rattle.std.specs.List.{find, list_all, list_any}
use Rattle.std.specs.Option.{option_and_then}
use Rattle.mt_model.specs.declared.messages.message.Reply.{Reply}
use Rattle.mt_model.specs.declared.node.state.NodeSession.{NodeSession}
use Rattle.mt_model.specs.declared.node.state.NodeState.{NodeState}
use Rattle.mt_model.specs.declared.node.state.Standing.{Standing}
use Rattle.mt_model.specs.declared.node.state.Standing.TheVariants.{Waits, Live, Ended}
use Rattle.mt_model.specs.declared.tables.fabric.Fabric.{Fabric}
use Rattle.mt_model.specs.declared.texts.config.SessionRow.{SessionRow}
use Rattle.mt_model.specs.declared.texts.recording.Event.{Event}
use Rattle.mt_model.specs.declared.texts.recording.Event.TheVariants as events
use Rattle.mt_model.specs.texts.Config.{none_alike}
use Rattle.mt_outside.specs.declared.network.Peer.{Peer}
use Rattle.mt_session.specs.Opening.{Arrival}
use Rattle.mt_session.specs.declared.opening.Dropped.{Dropped}
use Rattle.mt_talk.specs.Hearing.{after_received, received_in, said}
use Rattle.mt_talk.specs.Talks.{Talk, after_drop, after_resend, open_in}
use Rattle.mt_machine.specs.Environment.{Environment}
use Rattle.mt_machine.specs.Opened.{session_of}
use Rattle.mt_machine.specs.Step.{closed_between, live_actor}
use Rattle.mt_machine.specs.Step as stepping
use Rattle.mt_ledger.specs.Ledger.{IsLedger, Ledger}
use Rattle.mt_ledger.specs.Reporting.{Due, due_now, due_report}
use Rattle.mt_runs.specs.Datagrams.{answer_to, behind_answer, resent_talk, session_named, talked}
use Rattle.mt_runs.specs.Isolation.{have_one_id, is_quiet, session_id, talk_id}
use Rattle.mt_runs.specs.Lines.{next, reported_talk, state_behind, talks_behind, talks_due, talks_told, with_next}
use Rattle.mt_runs.specs.Whole.{SessionTalk, Whole, has_closed, is_live, is_talk_of, let_go, talk_of, with_talk}
use Rattle.mt_runs.specs.Whole as wholes
use Rattle.mt_runs.proofs.Ids.{ids_of, is_named}
use Rattle.mt_runs.proofs.Subscribers.{subscriber_live}
use Rattle.mt_runs.proofs.Talks.{found_id}

contradiction : {A : Type 0} → false ≡ true → A
contradiction is = absurd cc

-- Each session has its talk.

abbrev Names : List SessionTalk → List ℕ
Names talks = map talk_id talks

one_kept : (closed : Bool) (t : SessionTalk) → talk_id (if closed then record t { talk = after_drop t.talk } else t) ≡ talk_id t
one_kept true t = refl
one_kept false t = refl

let_go_names : (before now : NodeState) (talks : List SessionTalk) → Names (map (let_go before now) talks) ≡ Names talks
let_go_names before now [] = refl
let_go_names before now (t ∷ talks) = λ i. one_kept (has_closed before now t.row.session) t i ∷ let_go_names before now talks i

with_talk_names : (id : ℕ) (talk : Talk) (talks : List SessionTalk) → Names (with_talk id talk talks) ≡ Names talks
with_talk_names id talk [] = refl
with_talk_names id talk (t ∷ talks) = elim (cases_Bool (is_talk_of id t)) [
  | inl its ↦ rw its refl
  | inr other ↦ rw other (ap (λ (l : List ℕ). t.row.session ∷ l) (with_talk_names id talk talks))
]

with_next_names : (behind : SessionTalk → Talk) (found : Option SessionTalk) (talks : List SessionTalk) → Names (with_next behind found talks) ≡ Names talks
with_next_names behind None talks = refl
with_next_names behind (Some t) talks = with_talk_names t.row.session (behind t) talks

told_names : (ms id : ℕ) (report : Reply) (talks : List SessionTalk) (over : Option ℕ) → Names (talks_told ms id report talks over) ≡ Names talks
told_names ms id report talks None = refl
told_names ms id report talks (Some session) = with_next_names (reported_talk ms id report) (talk_of (Some session) talks) talks

due_names : (s : NodeState) (l : Ledger) (talks : List SessionTalk) (ms fabric id : ℕ) (due : Option Due) → Names (talks_due s l talks ms fabric id due) ≡ Names talks
due_names s l talks ms fabric id None = refl
due_names s l talks ms fabric id (Some due) = told_names ms id (due_report s l.history fabric id due) talks due.kept.sub.actor.session

behind_names : (given : Environment) (w : Whole) (e : Event) → Names (talks_behind given w e) ≡ Names w.talks
behind_names given w (events.Ask ms fabric node cats opcode payload) = refl
behind_names given w (events.Datagram ms from bytes) = with_next_names (talked given w.state.node w.ledger ms from bytes) (talk_of (session_named bytes) w.talks) w.talks
behind_names given w (events.Tick ms) = refl
behind_names given w (events.Report ms fabric id) = due_names w.state.node w.ledger w.talks ms fabric id (due_now w.state.node w.ledger ms fabric id)
behind_names given w (events.Resend ms session) = with_next_names (resent_talk w.state.node ms) (talk_of (Some session) w.talks) w.talks
behind_names given w (events.Stop calls fate) = refl

pub next_names : (given : Environment) (w : Whole) (e : Event) → Names (next given w e).talks ≡ Names w.talks
next_names given w e = let_go_names w.state.node (state_behind given w e).node (talks_behind given w e) ∙ behind_names given w e

pub begun_names : (fabrics : List Fabric) (rows : List SessionRow) → Names (map wholes.begun rows) ≡ map session_id (map (session_of fabrics) rows)
begun_names fabrics [] = refl
begun_names fabrics (row ∷ rows) = ap (λ (l : List ℕ). row.session ∷ l) (begun_names fabrics rows)

-- Nothing is open over a session that is not live.

pub begun_quiet : (s : NodeState) (rows : List SessionRow) → list_all (is_quiet s) (map wholes.begun rows) ≡ true
begun_quiet s [] = refl
begun_quiet s (row ∷ rows) = and_from _ _ (or_right (is_live s row.session) true refl) (begun_quiet s rows)

dropped_open : (t : SessionTalk) → length (open_in t.row (after_drop t.talk)) ≡ 0
dropped_open t = refl

-- what comes while the session is not live opens nothing
received_open : (t : SessionTalk) (from : Peer) (answer : Result Arrival Dropped) → length (open_in t.row (after_received false from answer t.talk)) ≡ length (open_in t.row t.talk)
received_open t from (Ok a) = refl
received_open t from (Err reason) = refl

module _ (s : NodeState) where
  abbrev Quiet : List SessionTalk → Type 0
  Quiet talks = list_all (is_quiet s) talks ≡ true

  -- a talk that stands for one that was quiet, and is so where the session is live or where it opens nothing more
  still_quiet : (t : SessionTalk) (new : Bool → Talk) → (length (open_in t.row (new false)) ≡ length (open_in t.row t.talk)) → is_quiet s t ≡ true → is_quiet s (record t { talk = new (is_live s t.row.session) }) ≡ true
  still_quiet t new same quiet = by_test (is_live s t.row.session) quiet
    where
      by_test : (live : Bool) → (live || length (open_in t.row t.talk) == 0) ≡ true → (live || length (open_in t.row (new live)) == 0) ≡ true
      by_test true is = refl
      by_test false is = ap (λ (n : ℕ). n == 0) same ∙ is

  -- the talk that is found is one of them
  found_quiet : (id : ℕ) (t : SessionTalk) (talks : List SessionTalk) → find (is_talk_of id) talks ≡ Some t → Quiet talks → is_quiet s t ≡ true
  found_quiet id t [] found quiet = absurd (cc)
  found_quiet id t (x ∷ talks) found quiet =
      let both = and_parts (is_quiet s x) (list_all (is_quiet s) talks) quiet in
      elim (cases_Bool (is_talk_of id x)) [
        | inl its ↦
            let here : Some x ≡ Some t = subst (λ b. (if b then Some x else find (is_talk_of id) talks) ≡ Some t) its found in
            let same : x ≡ t = cc in
            subst (λ (y : SessionTalk). is_quiet s y ≡ true) same both.0
        | inr other ↦ found_quiet id t talks (subst (λ b. (if b then Some x else find (is_talk_of id) talks) ≡ Some t) other found) both.1
      ]

  replaced_quiet : (id : ℕ) (new : Talk) (t : SessionTalk) (talks : List SessionTalk) → find (is_talk_of id) talks ≡ Some t → is_quiet s (record t { talk = new }) ≡ true → Quiet talks → Quiet (with_talk id new talks)
  replaced_quiet id new t [] found is quiet = refl
  replaced_quiet id new t (x ∷ talks) found is quiet =
      let both = and_parts (is_quiet s x) (list_all (is_quiet s) talks) quiet in
      elim (cases_Bool (is_talk_of id x)) [
        | inl its ↦
            let here : Some x ≡ Some t = subst (λ b. (if b then Some x else find (is_talk_of id) talks) ≡ Some t) its found in
            let same : x ≡ t = cc in
            rw its (and_from _ _ (subst (λ (y : SessionTalk). is_quiet s (record y { talk = new }) ≡ true) (sym same) is) both.1)
        | inr other ↦ rw other (and_from _ _ both.0 (replaced_quiet id new t talks (subst (λ b. (if b then Some x else find (is_talk_of id) talks) ≡ Some t) other found) is both.1))
      ]

  next_quiet : (behind : SessionTalk → Talk) (talks : List SessionTalk) (named : Option ℕ) (t : Option SessionTalk) → talk_of named talks ≡ t
      → ((x : SessionTalk) → t ≡ Some x → is_quiet s x ≡ true → is_quiet s (record x { talk = behind x }) ≡ true) → Quiet talks → Quiet (with_next behind t talks)
  next_quiet behind talks named None is each quiet = quiet
  next_quiet behind talks None (Some x) is each quiet = absurd (cc)
  next_quiet behind talks (Some id) (Some x) is each quiet =
      let its : find (is_talk_of x.row.session) talks ≡ Some x = subst (λ (n : ℕ). find (is_talk_of n) talks ≡ Some x) (sym (found_id id talks x is)) is in
      replaced_quiet x.row.session (behind x) x talks its (each x refl (found_quiet id x talks is quiet)) quiet

  module _ (given : Environment) (l : Ledger) where
    -- what a datagram leaves
    talk_heard : ℕ → Peer → List ℕ → SessionTalk → Bool → Talk
    talk_heard ms from bytes t live = behind_answer t.row ms (after_received live from (received_in t.row t.talk bytes) t.talk) (answer_to given s l t.row.session ms (said t.row t.talk live bytes))

    heard_quiet : (ms : ℕ) (from : Peer) (bytes : List ℕ) (t : SessionTalk) → is_quiet s t ≡ true → is_quiet s (record t { talk = talked given s l ms from bytes t }) ≡ true
    unfolding talk_heard
    heard_quiet ms from bytes t quiet = still_quiet t (talk_heard ms from bytes t) (received_open t from (received_in t.row t.talk bytes)) quiet

    again_quiet : (ms : ℕ) (t : SessionTalk) → is_quiet s t ≡ true → is_quiet s (record t { talk = resent_talk s ms t }) ≡ true
    again_quiet ms t quiet = still_quiet t (λ live. if live then after_resend ms t.talk else t.talk) refl quiet

    live_quiet : (t : SessionTalk) (new : Talk) → is_live s t.row.session ≡ true → is_quiet s (record t { talk = new }) ≡ true
    live_quiet t new live = or_left _ _ live

    told_quiet : (ms id : ℕ) (report : Reply) (talks : List SessionTalk) (over : Option ℕ) → ((session : ℕ) → over ≡ Some session → is_live s session ≡ true) → Quiet talks → Quiet (talks_told ms id report talks over)
    told_quiet ms id report talks None live quiet = quiet
    told_quiet ms id report talks (Some session) live quiet =
        next_quiet (reported_talk ms id report) talks (Some session) (talk_of (Some session) talks) refl
        (λ x found its. live_quiet x (reported_talk ms id report x) (subst (λ (n : ℕ). is_live s n ≡ true) (sym (found_id session talks x found)) (live session refl))) quiet

    due_quiet : IsLedger s l → none_alike have_one_id s.sessions ≡ true → (talks : List SessionTalk) (ms fabric id : ℕ) (due : Option Due) → due_now s l ms fabric id ≡ due → Quiet talks → Quiet (talks_due s l talks ms fabric id due)
    due_quiet is apart talks ms fabric id None now_due quiet = quiet
    due_quiet is apart talks ms fabric id (Some due) now_due quiet =
        told_quiet ms id (due_report s l.history fabric id due) talks due.kept.sub.actor.session (λ session over. subscriber_live s l is apart ms fabric id due now_due session over) quiet

pub behind_quiet : (given : Environment) (w : Whole) (e : Event) → IsLedger w.state.node w.ledger → none_alike have_one_id w.state.node.sessions ≡ true → list_all (is_quiet w.state.node) w.talks ≡ true → list_all (is_quiet w.state.node) (talks_behind given w e) ≡ true
behind_quiet given w (events.Ask ms fabric node cats opcode payload) is apart quiet = quiet
behind_quiet given w (events.Datagram ms from bytes) is apart quiet =
    next_quiet w.state.node (talked given w.state.node w.ledger ms from bytes) w.talks (session_named bytes) (talk_of (session_named bytes) w.talks) refl (λ x found. heard_quiet w.state.node given w.ledger ms from bytes x) quiet
behind_quiet given w (events.Tick ms) is apart quiet = quiet
behind_quiet given w (events.Report ms fabric id) is apart quiet = due_quiet w.state.node given w.ledger is apart w.talks ms fabric id (due_now w.state.node w.ledger ms fabric id) refl quiet
behind_quiet given w (events.Resend ms session) is apart quiet =
    next_quiet w.state.node (resent_talk w.state.node ms) w.talks (Some session) (talk_of (Some session) w.talks) refl (λ x found. again_quiet w.state.node given w.ledger ms x) quiet
behind_quiet given w (events.Stop calls fate) is apart quiet = quiet

-- A session that was live and is not any more has closed.

abbrev live_in : ℕ → List NodeSession → Bool
live_in id sessions = is_some (option_and_then (λ (session : NodeSession). live_actor session session.standing) (find (is_named id) sessions))

some_live : (session : NodeSession) (standing : Standing) → is_some (live_actor session standing) ≡ stepping.is_live standing
some_live session Waits = refl
some_live session (Live fabric) = refl
some_live session Ended = refl

first_id : (a b : ℕ) (l m : List ℕ) → (a ∷ l) ≡ (b ∷ m) → (a ≡ b) × (l ≡ m)
first_id a b l m same = (cc, cc)

closed_too : (b : Bool) (id : ℕ) (first : ℕ) (rest : List ℕ) → list_any (λ (other : ℕ). other == id) rest ≡ true → list_any (λ (other : ℕ). other == id) (if b then first ∷ rest else rest) ≡ true
closed_too true id first rest there = or_right (first == id) _ there
closed_too false id first rest there = there

has_now_closed : (id : ℕ) (before now : List NodeSession) → ids_of now ≡ ids_of before → live_in id before ≡ true → live_in id now ≡ false → list_any (λ (other : ℕ). other == id) (closed_between before now) ≡ true
has_now_closed id [] now same live ended = contradiction live
has_now_closed id (b ∷ before) [] same live ended = absurd (cc)
has_now_closed id (b ∷ before) (n ∷ now) same live ended =
    let ids = first_id n.session b.session (ids_of now) (ids_of before) same in
    elim (cases_Bool (b.session == id)) [
      | inl its ↦
          let too : (n.session == id) ≡ true = ap (λ (m : ℕ). m == id) ids.0 ∙ its in
          let was : stepping.is_live b.standing ≡ true = sym (some_live b b.standing) ∙ subst (λ c. is_some (option_and_then (λ (session : NodeSession). live_actor session session.standing) (if c then Some b else find (is_named id) before)) ≡ true) its live in
          let is_not : stepping.is_live n.standing ≡ false = sym (some_live n n.standing) ∙ subst (λ c. is_some (option_and_then (λ (session : NodeSession). live_actor session session.standing) (if c then Some n else find (is_named id) now)) ≡ false) too ended in
          rw (was, is_not) (or_left (b.session == id) _ its)
      | inr other ↦
          let too : (n.session == id) ≡ false = ap (λ (m : ℕ). m == id) ids.0 ∙ other in
          closed_too (stepping.is_live b.standing && not (stepping.is_live n.standing)) id b.session (closed_between before now)
          (has_now_closed id before now ids.1
          (subst (λ c. is_some (option_and_then (λ (session : NodeSession). live_actor session session.standing) (if c then Some b else find (is_named id) before)) ≡ true) other live)
          (subst (λ c. is_some (option_and_then (λ (session : NodeSession). live_actor session session.standing) (if c then Some n else find (is_named id) now)) ≡ false) too ended))
    ]

module _ (before now : NodeState) (same : ids_of now.sessions ≡ ids_of before.sessions) where
  gone_quiet : (t : SessionTalk) → is_quiet before t ≡ true → is_quiet now (let_go before now t) ≡ true
  gone_quiet t quiet = by_test (has_closed before now t.row.session) refl
    where
      by_test : (closed : Bool) → has_closed before now t.row.session ≡ closed → is_quiet now (if closed then record t { talk = after_drop t.talk } else t) ≡ true
      by_test true is = or_right (is_live now t.row.session) _ (eq-eqb _ _ (dropped_open t))
      by_test false is = elim (cases_Bool (is_live now t.row.session)) [
        | inl live ↦ or_left _ _ live
        | inr ended ↦ elim (or_cases (is_live before t.row.session) (length (open_in t.row t.talk) == 0) quiet) [
          | inl was ↦ contradiction (sym is ∙ has_now_closed t.row.session before.sessions now.sessions same was ended)
          | inr none ↦ or_right _ _ none
        ]
      ]

  pub let_go_quiet : (talks : List SessionTalk) → list_all (is_quiet before) talks ≡ true → list_all (is_quiet now) (map (let_go before now) talks) ≡ true
  let_go_quiet [] quiet = refl
  let_go_quiet (t ∷ talks) quiet =
      let both = and_parts (is_quiet before t) (list_all (is_quiet before) talks) quiet in
      and_from _ _ (gone_quiet t both.0) (let_go_quiet talks both.1)
