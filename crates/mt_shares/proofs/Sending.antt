-- What is sent over the sessions of one worker is what that worker's calls send.
use Rattle.std.proofs.Common.{◌≡◌, ◌≢◌, ◌∙◌, ℕ, ◌<◌, Bool, true, false, List, [], ◌∷◌, ◌++◌, Option, Some, None, refl, sym, ap, subst, arith, eq-eqb, ne_eqb}
use Rattle.std.specs.Prelude.{◌==◌, ◌%◌, filter, if◌then◌else◌}
use Rattle.std.proofs.lemmas.List.Elements.{filter-append}
use mathlib.Core.Logic.{dite}
use native.Mathlib.Decide.{ℕ_discrete}
use Rattle.mt_worker.specs.mt_layer.Saying.{if_live}
use Rattle.mt_model.specs.declared.texts.recording.Event.{Event}
use Rattle.mt_model.specs.declared.texts.recording.Event.TheVariants.{Ask, Datagram, Report, Resend, Stop as StopLine, Tick}
use Rattle.mt_model.specs.declared.texts.recording.Sent.{Sent}
use Rattle.mt_model.specs.declared.texts.recording.To.{To}
use Rattle.mt_model.specs.declared.texts.recording.To.TheVariants.{Session, Plain}
use Rattle.mt_outside.specs.declared.network.Peer.{Peer}
use Rattle.mt_worker.specs.mt_runs.Datagrams as runs
use Rattle.mt_worker.specs.mt_shared.Replay.{unless_stopped}
use Rattle.mt_worker.specs.mt_shared.Answer.{Answer}
use Rattle.mt_worker.specs.mt_shared.Stop.{Stop}
use Rattle.mt_worker.specs.Accounts.{Account, Accounts, account_behind, all_sent, behind, sent_by, sent_in, standing_behind, talk_in}
use Rattle.mt_worker.specs.Gots.{Each, Got, Told}
use Rattle.mt_worker.specs.Made.{AreTicks, IsTick}
use Rattle.mt_shares.specs.Laws.{WorkersSendTheirOwn}
use Rattle.mt_shares.specs.Threads.{HaveTheirIds, calls_of, is_over_its, is_to_worker, thread_of}
use Rattle.mt_shares.proofs.Made.{ticks_behind}
use Rattle.mt_shares.proofs.Sessions.{Agree, agree_behind, agree_other, has_session, of_worker, over_its, with_it, without_it}

-- A CALL SENDS OVER ITS SESSION ALONE.

abbrev IsOver : ℕ → To → Type 0
IsOver id (Session session peer) = session ≡ id
IsOver id (Plain fabric opcode) = ⊥

abbrev GoOver : ℕ → List Sent → Type 0
GoOver id sent = Each (λ (message : Sent). IsOver id message.to) sent

datagrams_over : (ms id : ℕ) (latest : Option Peer) (datagrams : List (List ℕ)) → GoOver id (runs.all_sent ms id latest datagrams)
datagrams_over ms id None datagrams = tt
datagrams_over ms id (Some peer) [] = tt
datagrams_over ms id (Some peer) (bytes ∷ datagrams) = (refl, datagrams_over ms id (Some peer) datagrams)

where_live : (id : ℕ) (fabric : Option ℕ) (sent : List Sent) → GoOver id sent → GoOver id (if_live fabric sent [])
where_live id None sent over = tt
where_live id (Some fabric) sent over = over

in_its : (event : Event) (ms : ℕ) (answer : Answer) (a : Account) → GoOver a.row.session (sent_in event ms answer a)
in_its (Ask now fabric node cats opcode payload) ms answer a = tt
in_its (Datagram now from bytes) ms answer a = where_live a.row.session answer.fabric _ (datagrams_over ms a.row.session _ _)
in_its (Tick now) ms answer a = tt
in_its (Report now fabric subscription) ms answer a = datagrams_over ms a.row.session _ _
in_its (Resend now session) ms answer a = where_live a.row.session answer.fabric _ (datagrams_over ms a.row.session _ _)
in_its (StopLine calls fate) ms answer a = tt

sends_over : (a : Account) (told : Told) → GoOver a.row.session (sent_by a told)
sends_over a told =
    let sent : List Sent = sent_in told.0.call.event told.0.ms told.1 a in
    let by : (o : Option Stop) → GoOver a.row.session (unless_stopped o sent []) = elim [ None ↦ in_its told.0.call.event told.0.ms told.1 a | Some stop ↦ tt ] in
    by told.0.stop

-- a time step sends nothing
tick_sends : (a : Account) (got : Got) → IsTick got → sent_by a got.told ≡ []
tick_sends a got tick =
    let none : sent_in got.told.0.call.event got.told.0.ms got.told.1 a ≡ [] = ap (λ call. sent_in call.event got.told.0.ms got.told.1 a) tick.call_is in
    let by : (o : Option Stop) → unless_stopped o (sent_in got.told.0.call.event got.told.0.ms got.told.1 a) [] ≡ [] = elim [ None ↦ none | Some stop ↦ refl ] in
    by got.told.0.stop

-- all of it goes to the worker of that session, and to no other

goes_to : (workers worker id : ℕ) (to : To) → IsOver id to → is_over_its workers worker to ≡ (id % workers == worker)
goes_to workers worker id (Session session peer) over = ap (λ (n : ℕ). n % workers == worker) over
goes_to workers worker id (Plain fabric opcode) over = absurd over

all_go : (workers worker id : ℕ) (sent : List Sent) → id % workers ≡ worker → GoOver id sent → filter (is_to_worker workers worker) sent ≡ sent
all_go workers worker id [] its over = refl
all_go workers worker id (message ∷ sent) its over =
    let rest : List Sent = filter (is_to_worker workers worker) sent in
    ap (λ (b : Bool). if b then message ∷ rest else rest) (goes_to workers worker id message.to over.0 ∙ eq-eqb (id % workers) worker its)
    ∙ ap (λ (others : List Sent). message ∷ others) (all_go workers worker id sent its over.1)

none_goes : (workers worker id : ℕ) (sent : List Sent) → id % workers ≢ worker → GoOver id sent → filter (is_to_worker workers worker) sent ≡ []
none_goes workers worker id [] other over = refl
none_goes workers worker id (message ∷ sent) other over =
    let rest : List Sent = filter (is_to_worker workers worker) sent in
    ap (λ (b : Bool). if b then message ∷ rest else rest) (goes_to workers worker id message.to over.0 ∙ ne_eqb (id % workers) worker other)
    ∙ none_goes workers worker id sent other over.1

-- THE ACCOUNTS of sessions are of their rows, also behind a call.

row_stays : (a : Account) (told : Told) → (account_behind a told).row ≡ a.row
row_stays a told =
    let each : (o : Option Stop) → (unless_stopped o (record a {
      talk = talk_in told.0.call.event told.0.ms told.1 a;
      subscriptions = standing_behind told.0.call.event told.0.call.deed told.0.ms told.1 a.subscriptions;
    }) a).row ≡ a.row = elim [ None ↦ refl | Some stop ↦ refl ] in
    each told.0.stop

ids_behind : (f : Accounts) (got : Got) → HaveTheirIds f → HaveTheirIds (behind f got)
ids_behind f got ids id =
    let by : (b : Bool) → (if b then account_behind (f id) got.told else f id).row.session ≡ id = elim [
      | true ↦ ap (λ row. row.session) (row_stays (f id) got.told) ∙ ids id
      | false ↦ ids id
    ] in
    by (id == got.session)

-- what is sent is told by the accounts of the calls' sessions
sent_alike : (passes : ℕ → Bool) (f g : Accounts) (gots : List Got) → Agree passes f g → Each (λ (got : Got). passes got.session ≡ true) gots → all_sent f gots ≡ all_sent g gots
sent_alike passes f g [] agree over = refl
sent_alike passes f g (got ∷ gots) agree over =
    ap (λ (a : Account). sent_by a got.told ++ all_sent (behind f got) gots) (agree got.session over.0)
    ∙ ap (λ (sent : List Sent). sent_by (g got.session) got.told ++ sent) (sent_alike passes (behind f got) (behind g got) gots (agree_behind passes f g got agree) over.1)

-- of what a call sends, to one worker

module _ (workers worker : ℕ) (f : Accounts) (got : Got) (all : List Got) (less : worker < workers) (ids : HaveTheirIds f) where
  abbrev its_sent : List Sent
  its_sent = sent_by (f got.session) got.told

  over_it : GoOver got.session its_sent
  over_it = subst (λ (id : ℕ). GoOver id its_sent) (ids got.session) (sends_over (f got.session) got.told)

  to_its : thread_of workers got ≡ worker → filter (is_to_worker workers worker) its_sent ≡ its_sent
  to_its its =
      let w = of_worker workers got (omega arith) (λ e. omega (arith, its)) in
      all_go workers worker got.session its_sent (sym w.1 ∙ its) over_it

  to_others : thread_of workers got ≢ worker → AreTicks (calls_of workers workers (got ∷ all)) → filter (is_to_worker workers worker) its_sent ≡ []
  to_others other ticks = dite (ℕ_discrete (thread_of workers got) workers)
      (λ reporter. ap (filter (is_to_worker workers worker)) (tick_sends (f got.session) got (subst AreTicks (with_it workers workers got all reporter) ticks).0))
      (λ not.
      let w = of_worker workers got (omega arith) not in
      none_goes workers worker got.session its_sent (λ e. other (w.1 ∙ e)) over_it)

pub workers_send_their_own : WorkersSendTheirOwn
workers_send_their_own workers worker f [] less ids ticks = refl
workers_send_their_own workers worker f (got ∷ all) less ids ticks =
    let mine : List Got = calls_of workers worker all in
    let rest = workers_send_their_own workers worker (behind f got) all less (ids_behind f got ids) (ticks_behind workers got all ticks) in
    filter-append (is_to_worker workers worker) (sent_by (f got.session) got.told) (all_sent (behind f got) all)
    ∙ ap (λ (sent : List Sent). filter (is_to_worker workers worker) (sent_by (f got.session) got.told) ++ sent) rest
    ∙ dite (ℕ_discrete (thread_of workers got) worker)
    (λ its.
    ap (λ (sent : List Sent). sent ++ all_sent (behind f got) mine) (to_its workers worker f got all less ids its)
    ∙ sym (ap (all_sent f) (with_it workers worker got all its)))
    (λ other.
    ap (λ (sent : List Sent). sent ++ all_sent (behind f got) mine) (to_others workers worker f got all less ids other ticks)
    ∙ sym (sent_alike (has_session workers worker) f (behind f got) mine (agree_other workers worker f got other) (over_its workers worker all))
    ∙ sym (ap (all_sent f) (without_it workers worker got all other)))
