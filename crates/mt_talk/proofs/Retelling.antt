-- A talk behind what is said in it is told by what is shown of it.
use Rattle.std.proofs.Common.{◌≡◌, ◌≢◌, ℕ, Bool, true, false, true≢false, List, [], ◌∷◌, ◌++◌, Option, Result, Ok, Err, refl, ap, sym, subst}
use Rattle.mt_outside.specs.declared.network.Peer.{Peer}
use Rattle.mt_model.specs.declared.messages.message.Payload.{Payload}
use Rattle.mt_model.specs.declared.texts.config.SessionRow.{SessionRow}
use Rattle.mt_session.specs.declared.fault.SealFault.{SealFault}
use Rattle.mt_session.specs.declared.fault.SealFault.TheVariants.{Exhausted, Memory, TooLong}
use Rattle.mt_session.specs.declared.opening.Dropped.{Dropped}
use Rattle.mt_session.specs.declared.opening.Dropped.TheVariants as droppings
use Rattle.mt_session.specs.Opening.{Arrival}
use Rattle.mt_session.specs.Sessions.{Message}
use Rattle.mt_exchange.specs.declared.exchange.Key.{Key}
use Rattle.mt_exchange.specs.Receiving.{Taken, acknowledged, ask, busy, closed, confirmed, ended, key_of, next, taken}
use Rattle.mt_exchange.specs.Retold.{AnswersAreRetold, AwaitsAll, BegunIsRetold, CopiesAreRetold, DropsAreRetold, IsOn, IsRetold, ReportsAreRetold, ResendStepsAreRetold, ShownTellsTheRest, TakenOnItsExchange, WaitingIsRetold}
use Rattle.mt_exchange.specs.Runs.{Happening, Run, after, after_arrival, answer_of, answered, dropped, reported, resend_step}
use Rattle.mt_exchange.specs.Shown.{Shown, again, arrivals_in, heard, messages_in, sent, shown_by, told}
use Rattle.mt_exchange.specs.Shown as showing
use Rattle.mt_talk.specs.Hearing.{acknowledging, after_received, busy_payloads, received_in, said_again, said_as, said_in}
use Rattle.mt_talk.specs.Retold.{BegunTalkIsRetold, DroppedTalksAreRetold, HeardTalksAreRetold, IsRetoldTalk, ReportedTalksAreRetold, ResentTalksAreRetold, ShownTalksAreTheSame, answer_said, behind_said}
use Rattle.mt_talk.specs.Talks.{Talk, after_answer, after_drop, after_resend, answer_in, behind, behind_unless_refused, behind_unless_too_long, report_in, run_in}

abbrev Answer : Type 0
Answer = Result (Option (List ℕ)) SealFault

-- what came, and what was sealed, once a message was heard

arrivals_more : (live : Bool) (a : Arrival) (items : List Shown) → arrivals_in (items ++ heard live a ∷ []) ≡ arrivals_in items ++ a ∷ []
arrivals_more live a [] = refl
arrivals_more live a (heard was b ∷ items) = ap (λ (l : List Arrival). b ∷ l) (arrivals_more live a items)
arrivals_more live a (sent out now ∷ items) = arrivals_more live a items
arrivals_more live a (told subscription out now ∷ items) = arrivals_more live a items
arrivals_more live a (again now ∷ items) = arrivals_more live a items
arrivals_more live a (showing.closed ∷ items) = arrivals_more live a items

messages_same : (live : Bool) (a : Arrival) (items : List Shown) → messages_in (items ++ heard live a ∷ []) ≡ messages_in items
messages_same live a [] = refl
messages_same live a (heard was b ∷ items) = messages_same live a items
messages_same live a (sent out now ∷ items) = ap (λ (l : List Message). out.message ∷ l) (messages_same live a items)
messages_same live a (told subscription out now ∷ items) = ap (λ (l : List Message). out.message ∷ l) (messages_same live a items)
messages_same live a (again now ∷ items) = messages_same live a items
messages_same live a (showing.closed ∷ items) = messages_same live a items

-- a talk is told where a run with the same open exchanges and the same next id is
of-run : (row : SessionRow) (r : Run) (t : Talk) → r.open_ones ≡ t.open_ones → r.next_id ≡ t.next_id → IsRetold row r t.shown → IsRetoldTalk row t
of-run row r t open_ones next_id is =
    let same : record r { messages = messages_in t.shown; arrivals = arrivals_in t.shown } ≡ run_in t = λ i. record { open_ones = open_ones i; next_id = next_id i; arrivals = arrivals_in t.shown; messages = messages_in t.shown } in
    subst (λ (q : Run). IsRetold row q t.shown) same (record { open_ones = is.open_ones; next_id = is.next_id; messages = refl; settled = is.settled; opened = is.opened })

-- what is not refused as too long happens
behind-sent : (row : SessionRow) (answer : Answer) (happening : Happening) (t : Talk) → answer ≢ Err TooLong → behind_unless_too_long row answer happening t ≡ behind row happening t
behind-sent row (Ok bytes) happening t long = refl
behind-sent row (Err Exhausted) happening t long = refl
behind-sent row (Err TooLong) happening t long = absurd (long refl)
behind-sent row (Err Memory) happening t long = refl

-- A fresh message over a session that is live, and its answer.
module _ (law : AnswersAreRetold) (row : SessionRow) (from : Peer) (a : Arrival) (now : ℕ) (t : Talk) (is : IsRetoldTalk row t) where
  abbrev at : Key
  at = key_of a.header

  abbrev hearing : Talk
  hearing = after_received true from (Ok a) t

  run_heard : run_in hearing ≡ after_arrival true a (run_in t)
  run_heard = λ i. record {
    open_ones = hearing.open_ones;
    next_id = t.next_id;
    arrivals = arrivals_more true a t.shown i;
    messages = messages_same true a t.shown i;
  }

  answered-at : (acknowledge : Option ℕ) (payloads : List Payload) → AwaitsAll payloads → answer_in row hearing at acknowledge payloads ≢ Err TooLong
      → IsRetoldTalk row (after_answer row at acknowledge payloads now hearing)
  answered-at acknowledge payloads all long =
      let happening = answered at acknowledge payloads now in
      let fits : answer_of row (after_arrival true a (run_in t)) at acknowledge payloads ≢ Err TooLong =
      subst (λ (r : Run). answer_of row r at acknowledge payloads ≢ Err TooLong) run_heard long in
      let found = law row (run_in t) t.shown a acknowledge payloads now is all fits in
      let known : IsRetold row (after row (run_in hearing) happening) (hearing.shown ++ shown_by row (run_in hearing) happening) =
      subst (λ (r : Run). IsRetold row (after row r happening) (hearing.shown ++ shown_by row r happening)) (sym run_heard) found in
      subst (IsRetoldTalk row) (sym (behind-sent row (answer_in row hearing at acknowledge payloads) happening hearing long))
      (of-run row (after row (run_in hearing) happening) (behind row happening hearing) refl refl known)

  answered-on : (key : Key) (acknowledge : Option ℕ) (payloads : List Payload) → key ≡ at → AwaitsAll payloads → answer_in row hearing key acknowledge payloads ≢ Err TooLong
      → IsRetoldTalk row (after_answer row key acknowledge payloads now hearing)
  answered-on key acknowledge payloads its all =
      subst (λ (k : Key). answer_in row hearing k acknowledge payloads ≢ Err TooLong → IsRetoldTalk row (after_answer row k acknowledge payloads now hearing)) (sym its) (answered-at acknowledge payloads all)

  answered-as : (acknowledge : Option ℕ) (payloads : List Payload) (turn : Taken) → IsOn at turn → AwaitsAll payloads → answer_said row hearing payloads (said_as at acknowledge turn) ≢ Err TooLong
      → IsRetoldTalk row (behind_said row now hearing payloads (said_as at acknowledge turn))
  answered-as acknowledge payloads (ask key opcode payload timed) on all long = answered-on key acknowledge payloads on all long
  answered-as acknowledge payloads (next key) on all long = answered-on key acknowledge [] on tt long
  answered-as acknowledge payloads (confirmed key subscription) on all long = answered-on key acknowledge payloads on all long
  answered-as acknowledge payloads (ended key subscription) on all long = answered-on key acknowledge [] on tt long
  answered-as acknowledge payloads acknowledged on all long = answered-at acknowledge [] tt long
  answered-as acknowledge payloads (busy key) on all long = answered-on key acknowledge busy_payloads on (λ any. absurd (true≢false (sym any)), tt) long
  answered-as acknowledge payloads closed on all long = answered-at acknowledge [] tt long

-- A copy is acknowledged again.
module _ (law : CopiesAreRetold) (row : SessionRow) (now : ℕ) (t : Talk) (is : IsRetoldTalk row t) where
  copied-by : (key : Key) (acknowledge : Option ℕ) (answer : Answer) → IsRetoldTalk row (behind_unless_too_long row answer (answered key acknowledge [] now) t)
  copied-by key acknowledge (Err TooLong) = is
  copied-by key acknowledge (Ok bytes) = of-run row (after row (run_in t) (answered key acknowledge [] now)) (behind row (answered key acknowledge [] now) t) refl refl (law key acknowledge now row (run_in t) t.shown is)
  copied-by key acknowledge (Err Exhausted) = of-run row (after row (run_in t) (answered key acknowledge [] now)) (behind row (answered key acknowledge [] now) t) refl refl (law key acknowledge now row (run_in t) t.shown is)
  copied-by key acknowledge (Err Memory) = of-run row (after row (run_in t) (answered key acknowledge [] now)) (behind row (answered key acknowledge [] now) t) refl refl (law key acknowledge now row (run_in t) t.shown is)

  copied : (payloads : List Payload) (reason : Dropped) → IsRetoldTalk row (behind_said row now t payloads (said_again reason))
  copied payloads (droppings.Frame fault) = is
  copied payloads droppings.OtherSession = is
  copied payloads droppings.Source = is
  copied payloads droppings.NotSealed = is
  copied payloads droppings.Old = is
  copied payloads (droppings.Duplicate counter header) = copied-by (key_of header) (acknowledging header counter) (answer_in row t (key_of header) (acknowledging header counter) [])

module _ (answers : AnswersAreRetold) (copies : CopiesAreRetold) (waiting : WaitingIsRetold) (on_its_exchange : TakenOnItsExchange) where
  heard-by : (row : SessionRow) (live : Bool) (from : Peer) (answer : Result Arrival Dropped) (payloads : List Payload) (now : ℕ) (t : Talk) → IsRetoldTalk row t → AwaitsAll payloads
      → answer_said row (after_received live from answer t) payloads (said_in row t live answer) ≢ Err TooLong
      → IsRetoldTalk row (behind_said row now (after_received live from answer t) payloads (said_in row t live answer))
  heard-by row true from (Ok a) payloads now t is all long =
      answered-as answers row from a now t is (acknowledging a.header a.counter) payloads (taken t.open_ones a) (on_its_exchange t.open_ones a) all long
  heard-by row true from (Err reason) payloads now t is all long = copied copies row now t is payloads reason
  heard-by row false from (Ok a) payloads now t is all long =
      of-run row (after_arrival false a (run_in t)) (after_received false from (Ok a) t) refl refl (waiting a row (run_in t) t.shown is)
  heard-by row false from (Err reason) payloads now t is all long = is

  pub hears : HeardTalksAreRetold
  hears row live from bytes payloads now t is all long = heard-by row live from (received_in row t bytes) payloads now t is all long

-- What the node says of its own accord, and says again.

pub begins : BegunIsRetold → BegunTalkIsRetold
begins law row = law row

reported-by : (law : ReportsAreRetold) (row : SessionRow) (subscription : ℕ) (payloads : List Payload) (now : ℕ) (t : Talk) → IsRetoldTalk row t → AwaitsAll payloads → (answer : Answer)
    → IsRetoldTalk row (behind_unless_refused row answer (reported subscription payloads now) t)
reported-by law row subscription payloads now t is all (Ok bytes) =
    of-run row (after row (run_in t) (reported subscription payloads now)) (behind row (reported subscription payloads now) t) refl refl (law subscription payloads now all row (run_in t) t.shown is)
reported-by law row subscription payloads now t is all (Err fault) = is

pub reports : ReportsAreRetold → ReportedTalksAreRetold
reports law row subscription payloads now t is all = reported-by law row subscription payloads now t is all (report_in row t payloads)

pub resends : ResendStepsAreRetold → ResentTalksAreRetold
resends law row now t is = of-run row (after row (run_in t) (resend_step now)) (after_resend now t) refl refl (law now row (run_in t) t.shown is)

pub drops : DropsAreRetold → DroppedTalksAreRetold
drops law row t is = of-run row (after row (run_in t) dropped) (after_drop t) refl refl (law row (run_in t) t.shown is)

pub same : ShownTellsTheRest → ShownTalksAreTheSame
same law row one other is its shown kept = law row (run_in one) (run_in other) one.shown is (subst (IsRetold row (run_in other)) (sym shown) its) kept
