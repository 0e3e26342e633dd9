-- What a talk says depends on its run and on where its peer is.
use Rattle.std.proofs.Common.{◌≡◌, ℕ, Bool, true, false, List, [], ◌∷◌, ◌++◌, Option, Some, None, Result, Ok, Err, refl, ap, subst, sym, ◌∙◌, if◌then◌else◌}
use Rattle.mt_outside.specs.declared.network.Peer.{Peer}
use Rattle.mt_model.specs.declared.messages.message.Payload.{Payload}
use Rattle.mt_model.specs.declared.texts.config.SessionRow.{SessionRow}
use Rattle.mt_session.specs.declared.fault.SealFault.{SealFault}
use Rattle.mt_session.specs.declared.fault.SealFault.TheVariants.{Exhausted, TooLong, Memory}
use Rattle.mt_session.specs.declared.opening.Dropped.{Dropped}
use Rattle.mt_session.specs.Opening.{Arrival, received}
use Rattle.mt_session.specs.Sessions.{Message, counters}
use Rattle.mt_exchange.specs.declared.exchange.Exchange.{Exchange}
use Rattle.mt_exchange.specs.Receiving as receiving
use Rattle.mt_exchange.specs.Receiving.{key_of, taken}
use Rattle.mt_exchange.specs.Resending.{due_again, ended_by, resent}
use Rattle.mt_exchange.specs.Runs.{Happening, Run, after, answer_of, answered, report_of, reported}
use Rattle.mt_exchange.specs.Shown.{Shown, again, arrivals_in, closed, heard, messages_in, sent, shown_by, told}
use Rattle.mt_talk.specs.Hearing.{acknowledging, after_datagram, after_received, received_in, said, said_as, said_in}
use Rattle.mt_talk.specs.Talks.{Talk, answer_in, behind, behind_unless_refused, behind_unless_too_long, report_in, run_in, sent_by}
use Rattle.mt_shared.specs.mt_runs.Datagrams.{Answer}
use Rattle.mt_layer.specs.Agreeing.{Agrees, AreAlike}
use Rattle.mt_layer.specs.Laws.{AnswerAlike, DropAlike, HearAlike, ReportAlike, ResendAlike}

-- What came and what went, where more is shown.

pub arrivals_more : (xs ys : List Shown) → arrivals_in (xs ++ ys) ≡ arrivals_in xs ++ arrivals_in ys
arrivals_more [] ys = refl
arrivals_more (heard live a ∷ xs) ys = ap (λ (l : List Arrival). a ∷ l) (arrivals_more xs ys)
arrivals_more (sent message now ∷ xs) ys = arrivals_more xs ys
arrivals_more (told subscription message now ∷ xs) ys = arrivals_more xs ys
arrivals_more (again now ∷ xs) ys = arrivals_more xs ys
arrivals_more (closed ∷ xs) ys = arrivals_more xs ys

pub messages_more : (xs ys : List Shown) → messages_in (xs ++ ys) ≡ messages_in xs ++ messages_in ys
messages_more [] ys = refl
messages_more (heard live a ∷ xs) ys = messages_more xs ys
messages_more (sent message now ∷ xs) ys = ap (λ (l : List Message). message.message ∷ l) (messages_more xs ys)
messages_more (told subscription message now ∷ xs) ys = ap (λ (l : List Message). message.message ∷ l) (messages_more xs ys)
messages_more (again now ∷ xs) ys = messages_more xs ys
messages_more (closed ∷ xs) ys = messages_more xs ys

-- A talk of which so much more is shown, and its run.

abbrev pub talk_with : List Shown → List Exchange → ℕ → Option Peer → Talk → Talk
talk_with more open_ones next_id latest t = record { shown = t.shown ++ more; open_ones = open_ones; next_id = next_id; latest = latest }

abbrev pub run_with : List Shown → List Exchange → ℕ → Run → Run
run_with more open_ones next_id r = record { open_ones = open_ones; next_id = next_id; arrivals = r.arrivals ++ arrivals_in more; messages = r.messages ++ messages_in more }

pub its_run : (more : List Shown) (open_ones : List Exchange) (next_id : ℕ) (latest : Option Peer) (t : Talk) → run_in (talk_with more open_ones next_id latest t) ≡ run_with more open_ones next_id (run_in t)
its_run more open_ones next_id latest t = λ i. record { open_ones = open_ones; next_id = next_id; arrivals = arrivals_more t.shown more i; messages = messages_more t.shown more i }

-- two that are alike still are where what is added is told by the run
alike_by : (more : Run → List Shown) (open_ones : Run → List Exchange) (next_id : Run → ℕ) (latest : Option Peer → Option Peer) (u t : Talk) → AreAlike u t
    → AreAlike (talk_with (more (run_in u)) (open_ones (run_in u)) (next_id (run_in u)) (latest u.latest) u) (talk_with (more (run_in t)) (open_ones (run_in t)) (next_id (run_in t)) (latest t.latest) t)
alike_by more open_ones next_id latest u t a = record {
  run = its_run (more (run_in u)) (open_ones (run_in u)) (next_id (run_in u)) (latest u.latest) u
      ∙ ap (λ (r : Run). run_with (more r) (open_ones r) (next_id r) r) a.run
      ∙ sym (its_run (more (run_in t)) (open_ones (run_in t)) (next_id (run_in t)) (latest t.latest) t);
  latest = ap latest a.latest;
}

same_peer : Option Peer → Option Peer
same_peer latest = latest

alike_behind : (row : SessionRow) (h : Happening) (u t : Talk) → AreAlike u t → AreAlike (behind row h u) (behind row h t)
unfolding same_peer
alike_behind row h u t a = alike_by (λ r. shown_by row r h) (λ r. (after row r h).open_ones) (λ r. (after row r h).next_id) same_peer u t a

-- HEARING

received_alike : (row : SessionRow) (bytes : List ℕ) (u t : Talk) → AreAlike u t → received_in row u bytes ≡ received_in row t bytes
received_alike row bytes u t a = ap (λ (r : Run). received row (counters r.arrivals) bytes) a.run

said_alike : (row : SessionRow) (live : Bool) (answer : Result Arrival Dropped) (u t : Talk) → AreAlike u t → said_in row u live answer ≡ said_in row t live answer
said_alike row true (Ok x) u t a = ap (λ (r : Run). said_as (key_of x.header) (acknowledging x.header x.counter) (taken r.open_ones x)) a.run
said_alike row true (Err dropped) u t a = refl
said_alike row false (Ok x) u t a = refl
said_alike row false (Err dropped) u t a = refl

alike_received : (live : Bool) (from : Peer) (answer : Result Arrival Dropped) (u t : Talk) → AreAlike u t → AreAlike (after_received live from answer u) (after_received live from answer t)
alike_received live from (Ok x) u t a = alike_by (λ r. heard live x ∷ []) (λ r. if live then receiving.received r.open_ones x else r.open_ones) (λ r. r.next_id) (λ latest. Some from) u t a
alike_received live from (Err dropped) u t a = a

pub said_same : (row : SessionRow) (live : Bool) (bytes : List ℕ) (u t : Talk) → AreAlike u t → said row u live bytes ≡ said row t live bytes
said_same row live bytes u t a = ap (said_in row u live) (received_alike row bytes u t a) ∙ said_alike row live (received_in row t bytes) u t a

pub hear_alike : HearAlike
hear_alike row live from bytes u t a = (
  said_same row live bytes u t a,
  subst (λ (x : Result Arrival Dropped). AreAlike (after_received live from x u) (after_received live from (received_in row t bytes) t)) (sym (received_alike row bytes u t a)) (alike_received live from (received_in row t bytes) u t a),
)

-- ANSWERING

unless_too_long : (row : SessionRow) (answer : Result (Option (List ℕ)) SealFault) (h : Happening) (u t : Talk) → AreAlike u t → AreAlike (behind_unless_too_long row answer h u) (behind_unless_too_long row answer h t)
unless_too_long row (Ok bytes) h u t a = alike_behind row h u t a
unless_too_long row (Err Exhausted) h u t a = alike_behind row h u t a
unless_too_long row (Err TooLong) h u t a = a
unless_too_long row (Err Memory) h u t a = alike_behind row h u t a

answers_alike : (row : SessionRow) (answer : Answer) (u t : Talk) → AreAlike u t → answer_in row u answer.key answer.acknowledge answer.payloads ≡ answer_in row t answer.key answer.acknowledge answer.payloads
answers_alike row answer u t a = ap (λ (r : Run). answer_of row r answer.key answer.acknowledge answer.payloads) a.run

pub answer_alike : AnswerAlike
answer_alike row ms None u t a = (refl, a)
answer_alike row ms (Some answer) u t a =
    let h = answered answer.key answer.acknowledge answer.payloads ms in
    let its = answer_in row t answer.key answer.acknowledge answer.payloads in (
      ap sent_by (answers_alike row answer u t a),
      subst (λ (x : Result (Option (List ℕ)) SealFault). AreAlike (behind_unless_too_long row x h u) (behind_unless_too_long row its h t)) (sym (answers_alike row answer u t a)) (unless_too_long row its h u t a),
    )

-- REPORTING

unless_refused : (row : SessionRow) (answer : Result (Option (List ℕ)) SealFault) (h : Happening) (u t : Talk) → AreAlike u t → AreAlike (behind_unless_refused row answer h u) (behind_unless_refused row answer h t)
unless_refused row (Ok bytes) h u t a = alike_behind row h u t a
unless_refused row (Err fault) h u t a = a

reports_alike : (row : SessionRow) (payloads : List Payload) (u t : Talk) → AreAlike u t → report_in row u payloads ≡ report_in row t payloads
reports_alike row payloads u t a = ap (λ (r : Run). report_of row r payloads) a.run

pub report_alike : ReportAlike
report_alike row subscription payloads ms u t a =
    let h = reported subscription payloads ms in
    let its = report_in row t payloads in (
      reports_alike row payloads u t a,
      subst (λ (x : Result (Option (List ℕ)) SealFault). AreAlike (behind_unless_refused row x h u) (behind_unless_refused row its h t)) (sym (reports_alike row payloads u t a)) (unless_refused row its h u t a),
    )

-- SENDING AGAIN

pub resend_alike : ResendAlike
unfolding same_peer
resend_alike row ms u t a = (
  ap (λ (r : Run). due_again ms r.open_ones) a.run,
  ap (λ (r : Run). ended_by ms r.open_ones) a.run,
  alike_by (λ r. again ms ∷ []) (λ r. resent ms r.open_ones) (λ r. r.next_id) same_peer u t a,
)

-- DROPPING

pub drop_alike : DropAlike
unfolding same_peer
drop_alike u t a = alike_by (λ r. closed ∷ []) (λ r. []) (λ r. r.next_id) same_peer u t a

-- AGREEING

pub alike_of : (ended : Bool) (u t : Talk) → Agrees ended u t → ended ≡ false → AreAlike u t
alike_of ended u t a going = record {
  run = λ i. record { open_ones = a.open_ones going i; next_id = a.next_id i; arrivals = a.arrivals i; messages = a.messages i };
  latest = a.latest;
}

pub agrees_of : (ended : Bool) (u t : Talk) → AreAlike u t → Agrees ended u t
agrees_of ended u t a = record {
  arrivals = ap (λ (r : Run). r.arrivals) a.run;
  messages = ap (λ (r : Run). r.messages) a.run;
  next_id = ap (λ (r : Run). r.next_id) a.run;
  latest = a.latest;
  open_ones = λ going. ap (λ (r : Run). r.open_ones) a.run;
}

-- what is alike agrees with the same
pub agrees_with : (ended : Bool) (x u t : Talk) → AreAlike x u → Agrees ended u t → Agrees ended x t
agrees_with ended x u t a b = record {
  arrivals = ap (λ (r : Run). r.arrivals) a.run ∙ b.arrivals;
  messages = ap (λ (r : Run). r.messages) a.run ∙ b.messages;
  next_id = ap (λ (r : Run). r.next_id) a.run ∙ b.next_id;
  latest = a.latest ∙ b.latest;
  open_ones = λ going. ap (λ (r : Run). r.open_ones) a.run ∙ b.open_ones going;
}

-- nothing is said of what is open
pub agrees_but_open : (ended : Bool) (u t : Talk) → Agrees ended u t → Agrees true u t
agrees_but_open ended u t a = record { arrivals = a.arrivals; messages = a.messages; next_id = a.next_id; latest = a.latest; open_ones = λ going. absurd (cc) }

-- Behind a datagram they agree in all but that, live or not.

heard_by : (one other : Bool) (from : Peer) (answer : Result Arrival Dropped) (ended : Bool) (u t : Talk) → Agrees ended u t → Agrees true (after_received one from answer u) (after_received other from answer t)
heard_by one other from (Ok x) ended u t a = record {
  arrivals = arrivals_more u.shown (heard one x ∷ []) ∙ ap (λ (l : List Arrival). l ++ x ∷ []) a.arrivals ∙ sym (arrivals_more t.shown (heard other x ∷ []));
  messages = messages_more u.shown (heard one x ∷ []) ∙ ap (λ (l : List Message). l ++ []) a.messages ∙ sym (messages_more t.shown (heard other x ∷ []));
  next_id = a.next_id;
  latest = refl;
  open_ones = λ going. absurd (cc);
}
heard_by one other from (Err dropped) ended u t a = agrees_but_open ended u t a

pub agrees_heard : (row : SessionRow) (one other : Bool) (from : Peer) (bytes : List ℕ) (ended : Bool) (u t : Talk) → Agrees ended u t → Agrees true (after_datagram row one from bytes u) (after_datagram row other from bytes t)
agrees_heard row one other from bytes ended u t a =
    let same : received_in row u bytes ≡ received_in row t bytes = ap (λ (arrivals : List Arrival). received row (counters arrivals) bytes) a.arrivals in
    subst (λ (x : Result Arrival Dropped). Agrees true (after_received one from x u) (after_received other from (received_in row t bytes) t)) (sym same) (heard_by one other from (received_in row t bytes) ended u t a)

-- what comes while the session is not live opens nothing
pub heard_open : (from : Peer) (answer : Result Arrival Dropped) (t : Talk) → (after_received false from answer t).open_ones ≡ t.open_ones
heard_open from (Ok x) t = refl
heard_open from (Err dropped) t = refl
