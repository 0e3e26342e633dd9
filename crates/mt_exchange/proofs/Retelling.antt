-- A run behind what happens is known by what is shown of that.
use Rattle.std.proofs.Common.{◌≡◌, ◌≢◌, ℕ, ◌+◌, ◌%◌, ◌||◌, ◌==◌, nat_lt, Bool, true, false, true≢false, List, [], ◌∷◌, ◌++◌, map, Option, Some, None, is_some, Result, Ok, Err, if◌then◌else◌, refl, ap, sym, subst, ◌∙◌, append-nil, inl, inr}
use Rattle.std.specs.List.{AllByRecursion}
use Rattle.std.proofs.lemmas.Bool.{cases_Bool}
use Rattle.mt_frame.specs.declared.header.ProtocolHeader.{ProtocolHeader}
use Rattle.mt_model.specs.declared.limits.TheConstants.{LAST_COUNTER, SENT_BYTES}
use Rattle.mt_model.specs.declared.messages.message.Payload.{Payload}
use Rattle.mt_model.specs.declared.texts.config.SessionRow.{SessionRow}
use Rattle.mt_session.specs.Datagrams.{datagram_length}
use Rattle.mt_session.specs.declared.fault.SealFault.{SealFault}
use Rattle.mt_session.specs.declared.fault.SealFault.TheVariants.{Exhausted, Memory, TooLong}
use Rattle.mt_session.specs.Sessions.{Message, next_counter, next_datagram, refusal}
use Rattle.mt_exchange.specs.declared.exchange.Key.{Key}
use Rattle.mt_exchange.specs.declared.exchange.Owed.{Owed}
use Rattle.mt_exchange.specs.declared.exchange.Exchange.{Exchange}
use Rattle.mt_exchange.specs.Opened.{exchange_at, is_any, is_open, nothing, put}
use Rattle.mt_exchange.specs.Receiving.{key_of}
use Rattle.mt_exchange.specs.Resending.{behind_step, closes, resent, sent_again}
use Rattle.mt_exchange.specs.Retold.{AnswersAreRetold, AwaitsAll, BegunIsRetold, CopiesAreRetold, DropsAreRetold, IsOpened, IsRetold, IsSettled, ReportsAreRetold, ResendStepsAreRetold, ShownTellsTheRest, Still, WaitingIsRetold, bare, behind_sent, quiet, retell, retold, retold_so_far, settle, settled, still}
use Rattle.mt_exchange.specs.Runs.{Run, after_arrival, begun_with, fresh_exchange, report_message}
use Rattle.mt_exchange.specs.Sending.{Sending, acknowledgement, acknowledging, alone, behind_payload, behind_sending, free_id, header_of, message, own_key, plainly, reliably, sealed_unless, sealed_with, sealing, sending, silence}
use Rattle.mt_exchange.specs.Shown.{Outgoing, Shown, again, closed, deadline_of_first, deadline_to_send, heard, outgoing, outgoing_if, sent, shown_answer, shown_report, told}
use Rattle.mt_exchange.proofs.Bare.{all-over, all-put, bare-at, bare-open, bare-put, settled-put, settled-same}
use Rattle.mt_exchange.proofs.Heard.{IsWaiting, found-settled, heard_live}
use Rattle.mt_exchange.proofs.Keys.{exchange_at-key}
use Rattle.mt_exchange.proofs.Told.{messages_told, sealed_told, so_far_behind}

abbrev Answer : Type 0
Answer = Result (Option (List ℕ)) SealFault

-- one thing more is shown
behind-one : (row : SessionRow) (r : Run) (items : List Shown) (item : Shown) → map bare r.open_ones ≡ settled (retell row (retold_so_far row items) item).open_ones
    → r.next_id ≡ (retell row (retold_so_far row items) item).next_id → r.messages ≡ (retell row (retold_so_far row items) item).messages
    → AllByRecursion IsSettled r.open_ones → AllByRecursion IsOpened r.open_ones → IsRetold row r (items ++ item ∷ [])
behind-one row r items item open_ones next_id messages all opened =
    let step = sym (so_far_behind row items item) in
    record {
      open_ones = open_ones ∙ ap (λ (q : Run). settled q.open_ones) step;
      next_id = next_id ∙ ap (λ (q : Run). q.next_id) step;
      messages = messages ∙ ap (λ (q : Run). q.messages) step ∙ messages_told row (items ++ item ∷ []);
      settled = all;
      opened = opened;
    }

-- nothing more is shown
behind-none : (row : SessionRow) (r : Run) (items : List Shown) → IsRetold row r items → IsRetold row r (items ++ [])
behind-none row r items is = subst (IsRetold row r) (sym (append-nil items)) is

-- twice taken as answered is once
settled-twice : (xs : List Exchange) (known : List Exchange) → AllByRecursion IsSettled xs → AllByRecursion IsOpened xs → map bare xs ≡ known → map bare xs ≡ settled known
settled-twice xs known all opened is = sym (settled-same xs all opened) ∙ ap settled is

-- What is sent without a wish for an acknowledgement changes nothing that is open.
behind-plain : (row : SessionRow) (r : Run) (items : List Shown) (out : Outgoing) (now : ℕ) → out.message.header.reliable ≡ false → IsRetold row r items
    → IsRetold row (record r { messages = r.messages ++ out.message ∷ [] }) (items ++ sent out now ∷ [])
behind-plain row r items out now plain is =
    let so_far = retold_so_far row items in
    let step : retell row so_far (sent out now) ≡ record (settle so_far) { messages = so_far.messages ++ out.message ∷ [] } = rw plain refl in
    behind-one row (record r { messages = r.messages ++ out.message ∷ [] }) items (sent out now)
    (settled-twice r.open_ones (settled so_far.open_ones) is.settled is.opened is.open_ones ∙ ap (λ (q : Run). settled q.open_ones) (sym step))
    (is.next_id ∙ ap (λ (q : Run). q.next_id) (sym step))
    (ap (λ (ms : List Message). ms ++ out.message ∷ []) (sealed_told row r items is) ∙ ap (λ (q : Run). q.messages) (sym step))
    is.settled is.opened

-- A payload that is sent is owed, and so its exchange is open.

any-last : (owed : List Owed) (o : Owed) → is_any (owed ++ o ∷ []) ≡ true
any-last [] o = refl
any-last (p ∷ owed) o = refl

open-with : (k o c d : Bool) → o ≡ true → (k || o || c || d) ≡ true
open-with true o c d e = refl
open-with false o c d e = ap (λ (b : Bool). b || c || d) e

payload-settled : (p : Payload) (kept : List Payload) (counter : ℕ) (bytes : List ℕ) (now : ℕ) (x : Exchange) → AwaitsAll (p ∷ kept) → IsSettled (behind_payload p kept counter bytes now x)
payload-settled p kept counter bytes now x all = record { answered = refl; confirmed = all.0; awaiting = all.1 }

payload-opened : (p : Payload) (kept : List Payload) (counter : ℕ) (bytes : List ℕ) (now : ℕ) (x : Exchange) → IsOpened (behind_payload p kept counter bytes now x)
payload-opened p kept counter bytes now x =
    let y = behind_payload p kept counter bytes now x in
    open-with (is_any kept) (is_any y.owed) y.confirmation (is_some y.deadline) (any-last x.owed (record { counter = counter; datagram = bytes; sendings = 1; last = now }))

-- What an answer sends, on what there is of its exchange.

abbrev IsFit : Exchange → Sending → Type 0
IsFit x silence = IsSettled (quiet x)
IsFit x (alone counter) = IsSettled (quiet x)
IsFit x (reliably p kept) = AwaitsAll (p ∷ kept)
IsFit x (plainly p) = IsSettled x

first-false : (u k o c d : Bool) → (u || k || o || c || d) ≡ false → u ≡ false
first-false true k o c d e = absurd (true≢false e)
first-false false k o c d e = refl

closed-settled : (x : Exchange) → IsWaiting x → is_open x ≡ false → IsSettled x
closed-settled x is e =
    let answered = first-false x.unanswered (is_any x.kept) (is_any x.owed) x.confirmation (is_some x.deadline) e in
    record { answered = answered; confirmed = is.confirmed answered; awaiting = is.awaiting }

fit-acknowledging : (x : Exchange) (acknowledge : Option ℕ) → IsSettled (quiet x) → IsFit x (acknowledging acknowledge)
fit-acknowledging x None is = is
fit-acknowledging x (Some counter) is = is

fit-kept : (x : Exchange) (acknowledge : Option ℕ) (unanswered : Bool) (kept : List Payload) → IsWaiting x → x.unanswered ≡ unanswered → x.kept ≡ kept
    → IsFit x (sending (record x { unanswered = unanswered; kept = kept }) acknowledge [])
fit-kept x acknowledge true (p ∷ kept) is u k = subst AwaitsAll k is.awaiting
fit-kept x acknowledge true [] is u k =
    fit-acknowledging x acknowledge (record { answered = refl; confirmed = λ any. absurd (true≢false (sym any ∙ ap is_any k)); awaiting = is.awaiting })
fit-kept x acknowledge false kept is u k = fit-acknowledging x acknowledge (record { answered = refl; confirmed = is.confirmed u; awaiting = is.awaiting })

fit : (x : Exchange) (acknowledge : Option ℕ) (payloads : List Payload) → IsWaiting x → AwaitsAll payloads → IsFit x (sending x acknowledge payloads)
fit x acknowledge (p ∷ kept) is all = elim (cases_Bool (is_open x)) [
  | inl e ↦ rw e all
  | inr e ↦ rw e (closed-settled x is e)
]
fit x acknowledge [] is all = fit-kept x acknowledge x.unanswered x.kept is refl refl

-- Why a message is not sealed.

not-memory-by : (a b : Bool) → (if a then Some Exhausted else if b then Some TooLong else None) ≡ Some Memory → ⊥
not-memory-by true b e = absurd (cc)
not-memory-by false true e = absurd (cc)
not-memory-by false false e = absurd (cc)

not-memory : (row : SessionRow) (messages : List Message) (header : ProtocolHeader) (payload : List ℕ) → refusal row messages header payload ≡ Some Memory → ⊥
not-memory row messages header payload e = not-memory-by (next_counter row messages == LAST_COUNTER) (nat_lt SENT_BYTES (datagram_length header payload)) e

-- what is too long is left as it is
abbrev IsSealed : Option SealFault → Type 0
IsSealed None = Unit {0}
IsSealed (Some Exhausted) = Unit {0}
IsSealed (Some TooLong) = ⊥
IsSealed (Some Memory) = ⊥

abbrev IsDone : Exchange → Option SealFault → Type 0
IsDone x None = Unit {0}
IsDone x (Some Exhausted) = Unit {0}
IsDone x (Some TooLong) = x.unanswered ≡ false
IsDone x (Some Memory) = x.unanswered ≡ false

sealed-done : (x : Exchange) (f : Option SealFault) → IsSealed f → IsDone x f
sealed-done x None is = tt
sealed-done x (Some Exhausted) is = tt
sealed-done x (Some TooLong) is = absurd is
sealed-done x (Some Memory) is = absurd is

answered-done : (x : Exchange) (f : Option SealFault) → x.unanswered ≡ false → IsDone x f
answered-done x None is = tt
answered-done x (Some Exhausted) is = tt
answered-done x (Some TooLong) is = is
answered-done x (Some Memory) is = is

sealed-by : (f : Option SealFault) (bytes : List ℕ) → sealed_unless f bytes ≢ Err TooLong → (f ≡ Some Memory → ⊥) → IsSealed f
sealed-by None bytes long memory = tt
sealed-by (Some Exhausted) bytes long memory = tt
sealed-by (Some TooLong) bytes long memory = absurd (long refl)
sealed-by (Some Memory) bytes long memory = absurd (memory refl)

-- An answer on an exchange, and on no other does anything wait.
module _ (row : SessionRow) (key : Key) (acknowledge : Option ℕ) (now : ℕ) (r : Run) (items : List Shown) (next_id : r.next_id ≡ (retold_so_far row items).next_id)
    (messages : r.messages ≡ (retold_so_far row items).messages) (others : AllByRecursion IsSettled (put (nothing key) r.open_ones)) (opened : AllByRecursion IsOpened r.open_ones) where
  abbrev x : Exchange
  x = exchange_at key r.open_ones

  abbrev run_with : Exchange → Run
  run_with y = record r { open_ones = put y r.open_ones }

  abbrev run_behind : Sending → Answer → Run
  run_behind s answer = record r {
    open_ones = put (behind_sending s (next_counter row r.messages) now answer x) r.open_ones;
    messages = sealed_with r.messages (message key acknowledge s) answer;
  }

  abbrev shown_behind : Sending → Answer → List Shown
  shown_behind s answer = shown_answer (outgoing_if (deadline_to_send s) (message key acknowledge s)) answer now

  others-with : (y : Exchange) → y.key ≡ key → IsSettled y → AllByRecursion IsSettled (put y r.open_ones)
  others-with y its is = all-over IsSettled y r.open_ones (λ e. is) (subst (λ (k : Key). AllByRecursion IsSettled (put (nothing k) r.open_ones)) (sym its) others)

  -- it is taken as answered
  quietly : (y : Exchange) → y.key ≡ key → IsSettled y → bare y ≡ quiet (bare x) → settled (map bare r.open_ones) ≡ (retold row items).open_ones → IsRetold row (run_with y) items
  quietly y its is same known =
      let k = sym its in
      record {
        open_ones =
            sym (settled-put y r.open_ones (bare-open y is.confirmed) (subst (λ (k : Key). AllByRecursion IsSettled (put (nothing k) r.open_ones)) k others) opened
            (same ∙ ap (λ (k : Key). quiet (bare (exchange_at k r.open_ones))) k))
            ∙ known;
        next_id = next_id;
        messages = messages ∙ messages_told row items;
        settled = others-with y its is;
        opened = all-put IsOpened y r.open_ones (λ e. e) opened;
      }

  its_key : x.key ≡ key
  its_key = exchange_at-key key r.open_ones

  quiet-same : x.unanswered ≡ false → bare x ≡ quiet (bare x)
  quiet-same e = λ i. record (bare x) { unanswered = e i }

  quiet-settled : x.unanswered ≡ false → IsSettled (quiet x) → IsSettled x
  quiet-settled e is = record { answered = e; confirmed = is.confirmed; awaiting = is.awaiting }

  -- without a payload
  pub silently : IsSettled (quiet x) → settled (map bare r.open_ones) ≡ (retold row items).open_ones → IsRetold row (run_behind silence (Ok None)) (items ++ shown_behind silence (Ok None))
  silently is known = behind-none row (run_behind silence (Ok None)) items (quietly (quiet x) its_key is refl known)

  pub alone-by : (counter : ℕ) (f : Option SealFault) (bytes : List ℕ) → IsDone x f → IsSettled (quiet x) → settled (map bare r.open_ones) ≡ (retold row items).open_ones
      → IsRetold row (run_behind (alone counter) (sealed_unless f bytes)) (items ++ shown_behind (alone counter) (sealed_unless f bytes))
  alone-by counter None bytes done is known =
      behind-plain row (run_with (quiet x)) items (outgoing None (record { header = acknowledgement key counter; payload = [] })) now refl (quietly (quiet x) its_key is refl known)
  alone-by counter (Some Exhausted) bytes done is known = behind-none row (run_with (quiet x)) items (quietly (quiet x) its_key is refl known)
  alone-by counter (Some TooLong) bytes done is known = behind-none row (run_with x) items (quietly x its_key (quiet-settled done is) (quiet-same done) known)
  alone-by counter (Some Memory) bytes done is known = behind-none row (run_with x) items (quietly x its_key (quiet-settled done is) (quiet-same done) known)

  -- a payload on no exchange
  plainly-by : (p : Payload) (f : Option SealFault) (bytes : List ℕ) → IsSettled x → settled (map bare r.open_ones) ≡ (retold row items).open_ones
      → IsRetold row (run_behind (plainly p) (sealed_unless f bytes)) (items ++ shown_behind (plainly p) (sealed_unless f bytes))
  plainly-by p None bytes is known =
      behind-plain row (run_with x) items (outgoing p.deadline (record { header = header_of key false p.opcode acknowledge; payload = p.bytes })) now refl
      (quietly x its_key is (quiet-same is.answered) known)
  plainly-by p (Some fault) bytes is known = behind-none row (run_with x) items (quietly x its_key is (quiet-same is.answered) known)

  -- a payload on the exchange
  abbrev out_of : Payload → Outgoing
  out_of p = outgoing p.deadline (record { header = header_of key true p.opcode acknowledge; payload = p.bytes })

  abbrev datagram_of : Payload → List ℕ
  datagram_of p = next_datagram row r.messages (header_of key true p.opcode acknowledge) p.bytes

  loudly : (p : Payload) (kept : List Payload) → AwaitsAll (p ∷ kept) → map bare r.open_ones ≡ (retold_so_far row items).open_ones
      → IsRetold row (run_behind (reliably p kept) (Ok (Some (datagram_of p)))) (items ++ sent (out_of p) now ∷ [])
  loudly p kept all known =
      let so_far = retold_so_far row items in
      let y = behind_payload p kept (next_counter row r.messages) (datagram_of p) now x in
      let is : IsSettled y = payload-settled p kept (next_counter row r.messages) (datagram_of p) now x all in
      let list : List Message → List Exchange → List Exchange = λ (ms : List Message) (xs : List Exchange). put (behind_sent row ms (out_of p) now (exchange_at key xs)) xs in
      let same : map bare (put y r.open_ones) ≡ list so_far.messages so_far.open_ones =
      sym (bare-put y r.open_ones (bare-open y is.confirmed))
      ∙ ap (λ (z : Exchange). put (behind_sent row r.messages (out_of p) now z) (map bare r.open_ones)) (sym (bare-at key r.open_ones))
      ∙ (λ i. list (messages i) (known i)) in
      let all_settled = others-with y its_key is in
      let all_opened = all-put IsOpened y r.open_ones (λ e. e) opened in
      behind-one row (run_behind (reliably p kept) (Ok (Some (datagram_of p)))) items (sent (out_of p) now)
      (settled-twice (put y r.open_ones) (settled (list so_far.messages so_far.open_ones)) all_settled all_opened
      (settled-twice (put y r.open_ones) (list so_far.messages so_far.open_ones) all_settled all_opened same))
      next_id
      (ap (λ (ms : List Message). ms ++ (out_of p).message ∷ []) messages)
      all_settled all_opened

  reliably-by : (p : Payload) (kept : List Payload) (f : Option SealFault) → IsSealed f → AwaitsAll (p ∷ kept) → map bare r.open_ones ≡ (retold_so_far row items).open_ones
      → IsRetold row (run_behind (reliably p kept) (sealed_unless f (datagram_of p))) (items ++ shown_behind (reliably p kept) (sealed_unless f (datagram_of p)))
  reliably-by p kept None is all known = loudly p kept all known
  reliably-by p kept (Some Exhausted) is all known =
      let y : Exchange = record x { unanswered = false; kept = [] } in
      behind-none row (run_with y) items (quietly y its_key (record { answered = refl; confirmed = λ any. absurd (true≢false (sym any)); awaiting = tt }) refl (ap settled known))
  reliably-by p kept (Some TooLong) is all known = absurd is
  reliably-by p kept (Some Memory) is all known = absurd is

  sent-by : (s : Sending) → IsFit x s → map bare r.open_ones ≡ (retold_so_far row items).open_ones → sealing row r.messages (message key acknowledge s) ≢ Err TooLong
      → IsRetold row (run_behind s (sealing row r.messages (message key acknowledge s))) (items ++ shown_behind s (sealing row r.messages (message key acknowledge s)))
  sent-by silence is known long = silently is (ap settled known)
  sent-by (alone counter) is known long =
      let header = acknowledgement key counter in
      let f = refusal row r.messages header [] in
      let bytes = next_datagram row r.messages header [] in
      alone-by counter f bytes (sealed-done x f (sealed-by f bytes long (not-memory row r.messages header []))) is (ap settled known)
  sent-by (reliably p kept) is known long =
      let header = header_of key true p.opcode acknowledge in
      let f = refusal row r.messages header p.bytes in
      reliably-by p kept f (sealed-by f (datagram_of p) long (not-memory row r.messages header p.bytes)) is known
  sent-by (plainly p) is known long =
      let header = header_of key false p.opcode acknowledge in
      plainly-by p (refusal row r.messages header p.bytes) (next_datagram row r.messages header p.bytes) is (ap settled known)

-- A fresh message, and its answer.
pub answers : AnswersAreRetold
answers row r items a acknowledge payloads now is all long =
    let key = key_of a.header in
    let hearing = after_arrival true a r in
    let found = heard_live row r items a is in
    sent-by row key acknowledge now hearing (items ++ heard true a ∷ []) found.next_id found.messages found.others found.opened
    (sending (exchange_at key hearing.open_ones) acknowledge payloads) (fit (exchange_at key hearing.open_ones) acknowledge payloads found.waiting all) found.open_ones long

-- At the beginning nothing is open.
pub begins : BegunIsRetold
begins row = record { open_ones = refl; next_id = refl; messages = refl; settled = tt; opened = tt }

-- A message on a session that is not live.
pub waiting : WaitingIsRetold
waiting a row r items is =
    let so_far = retold_so_far row items in
    behind-one row (after_arrival false a r) items (heard false a) (settled-twice r.open_ones (settled so_far.open_ones) is.settled is.opened is.open_ones) is.next_id (sealed_told row r items is) is.settled is.opened

-- All but one are settled where all are.
others-settled : (key : Key) (xs : List Exchange) → AllByRecursion IsSettled xs → AllByRecursion IsSettled (put (nothing key) xs)
others-settled key xs all = all-put IsSettled (nothing key) xs (λ e. absurd (true≢false (sym e))) all

-- A message that was let in before.
module _ (row : SessionRow) (key : Key) (now : ℕ) (r : Run) (items : List Shown) (is : IsRetold row r items) where
  abbrev found : IsSettled (exchange_at key r.open_ones)
  found = found-settled key r.open_ones is.settled

  abbrev found-quiet : IsSettled (quiet (exchange_at key r.open_ones))
  found-quiet = record { answered = refl; confirmed = found.confirmed; awaiting = found.awaiting }

  known-settled : settled (map bare r.open_ones) ≡ (retold row items).open_ones
  known-settled = settled-same r.open_ones is.settled is.opened ∙ is.open_ones

  copied-with : (acknowledge : Option ℕ) → let s = acknowledging acknowledge in
      let answer = sealing row r.messages (message key acknowledge s) in
      IsRetold row (run_behind row key acknowledge now r items is.next_id (sealed_told row r items is) (others-settled key r.open_ones is.settled) is.opened s answer)
      (items ++ shown_behind row key acknowledge now r items is.next_id (sealed_told row r items is) (others-settled key r.open_ones is.settled) is.opened s answer)
  copied-with None = silently row key None now r items is.next_id (sealed_told row r items is) (others-settled key r.open_ones is.settled) is.opened found-quiet known-settled
  copied-with (Some counter) =
      let header = acknowledgement key counter in
      let f = refusal row r.messages header [] in
      alone-by row key (Some counter) now r items is.next_id (sealed_told row r items is) (others-settled key r.open_ones is.settled) is.opened counter f (next_datagram row r.messages header [])
      (answered-done (exchange_at key r.open_ones) f found.answered) found-quiet known-settled

pub copies : CopiesAreRetold
copies key acknowledge now row r items is =
    let x = exchange_at key r.open_ones in
    let answered : x.unanswered ≡ false = (found-settled key r.open_ones is.settled).answered in
    let silent : acknowledging acknowledge ≡ sending x acknowledge [] = ap (λ (u : Bool). sending (record x { unanswered = u }) acknowledge []) (sym answered) in
    subst (λ (s : Sending). let answer = sealing row r.messages (message key acknowledge s) in
    IsRetold row (record r {
      open_ones = put (behind_sending s (next_counter row r.messages) now answer x) r.open_ones;
      messages = sealed_with r.messages (message key acknowledge s) answer;
    }) (items ++ shown_answer (outgoing_if (deadline_to_send s) (message key acknowledge s)) answer now)) silent (copied-with row key now r items is acknowledge)

-- A report.
module _ (row : SessionRow) (subscription now : ℕ) (r : Run) (items : List Shown) (is : IsRetold row r items) where
  abbrev header_with : ℕ → Payload → ProtocolHeader
  header_with id p = header_of (own_key id) true p.opcode None

  abbrev report_of_first : ℕ → Payload → Outgoing
  report_of_first id p = outgoing p.deadline (record { header = header_with id p; payload = p.bytes })

  abbrev first_bytes : ℕ → Payload → List ℕ
  first_bytes id p = next_datagram row r.messages (header_with id p) p.bytes

  reported-by : (id : ℕ) (p : Payload) (kept : List Payload) (f : Option SealFault) → AwaitsAll (p ∷ kept) → let answer = sealed_unless f (first_bytes id p) in
      IsRetold row (record (begun_with row subscription (Some id) (p ∷ kept) now answer r) { messages = sealed_with r.messages (Some (report_of_first id p).message) answer })
      (items ++ shown_report subscription (Some (report_of_first id p)) answer now)
  reported-by id p kept (Some fault) all = behind-none row r items is
  reported-by id p kept None all =
      let so_far = retold_so_far row items in
      let out = report_of_first id p in
      let y = behind_payload p kept (next_counter row r.messages) (first_bytes id p) now (fresh_exchange id subscription) in
      let its : IsSettled y = payload-settled p kept (next_counter row r.messages) (first_bytes id p) now (fresh_exchange id subscription) all in
      let list : List Message → List Exchange → List Exchange = λ (ms : List Message) (xs : List Exchange). put (behind_sent row ms out now (fresh_exchange id subscription)) xs in
      let same : map bare (put y r.open_ones) ≡ list so_far.messages (settled so_far.open_ones) =
      sym (bare-put y r.open_ones (bare-open y its.confirmed)) ∙ (λ i. list (sealed_told row r items is i) (is.open_ones i)) in
      let all_settled = all-put IsSettled y r.open_ones (λ e. its) is.settled in
      let all_opened = all-put IsOpened y r.open_ones (λ e. e) is.opened in
      behind-one row (record r { open_ones = put y r.open_ones; next_id = (id + 1) % 65536; messages = r.messages ++ out.message ∷ [] }) items (told subscription out now)
      (settled-twice (put y r.open_ones) (list so_far.messages (settled so_far.open_ones)) all_settled all_opened same)
      refl
      (ap (λ (ms : List Message). ms ++ out.message ∷ []) (sealed_told row r items is))
      all_settled all_opened

  reported-with : (id : Option ℕ) (payloads : List Payload) → AwaitsAll payloads → let m = report_message id payloads in
      let answer = sealing row r.messages m in
      IsRetold row (record (begun_with row subscription id payloads now answer r) { messages = sealed_with r.messages m answer })
      (items ++ shown_report subscription (outgoing_if (deadline_of_first payloads) m) answer now)
  reported-with None payloads all = behind-none row r items is
  reported-with (Some id) [] all = behind-none row r items is
  reported-with (Some id) (p ∷ kept) all = reported-by id p kept (refusal row r.messages (header_with id p) p.bytes) all

pub reports : ReportsAreRetold
reports subscription payloads now all row r items is = reported-with row subscription now r items is (free_id r.next_id r.open_ones) payloads all

-- What is sent again.

module _ (now : ℕ) where
  any-again : (owed : List Owed) → is_any (map (sent_again now) owed) ≡ is_any owed
  any-again [] = refl
  any-again (o ∷ owed) = refl

  again-opened : (x : Exchange) → IsOpened x → IsOpened (behind_step now x)
  again-opened x is = ap (λ (o : Bool). x.unanswered || is_any x.kept || o || x.confirmation || is_some x.deadline) (any-again x.owed) ∙ is

  again-settled : (x : Exchange) → IsSettled x → IsSettled (behind_step now x)
  again-settled x is = record { answered = is.answered; confirmed = is.confirmed; awaiting = is.awaiting }

  bare-again : (xs : List Exchange) → resent now (map bare xs) ≡ map bare (resent now xs)
  bare-again [] = refl
  bare-again (x ∷ xs) = elim (cases_Bool (closes now x)) [
    | inl spent ↦ rw spent (bare-again xs)
    | inr stays ↦ rw stays (ap (λ (l : List Exchange). bare (behind_step now x) ∷ l) (bare-again xs))
  ]

  all-again : (P : Exchange → Type 0) → ((x : Exchange) → P x → P (behind_step now x)) → (xs : List Exchange) → AllByRecursion P xs → AllByRecursion P (resent now xs)
  all-again P step [] all = tt
  all-again P step (x ∷ xs) all = elim (cases_Bool (closes now x)) [
    | inl spent ↦ rw spent (all-again P step xs all.1)
    | inr stays ↦ rw stays (step x all.0, all-again P step xs all.1)
  ]

pub resends : ResendStepsAreRetold
resends now row r items is =
    let all = all-again now IsSettled (again-settled now) r.open_ones is.settled in
    let opened = all-again now IsOpened (again-opened now) r.open_ones is.opened in
    behind-one row (record r { open_ones = resent now r.open_ones }) items (again now)
    (settled-twice (resent now r.open_ones) (resent now (settled (retold_so_far row items).open_ones)) all opened (sym (bare-again now r.open_ones) ∙ ap (resent now) is.open_ones))
    is.next_id (sealed_told row r items is) all opened

-- Nothing is open.
pub drops : DropsAreRetold
drops row r items is = behind-one row (record r { open_ones = [] }) items closed refl is.next_id (sealed_told row r items is) tt tt

-- What is told, with what is kept.

first_in : Exchange → List Exchange → Exchange
first_in none [] = none
first_in none (x ∷ xs) = x

rest_in : List Exchange → List Exchange
rest_in [] = []
rest_in (x ∷ xs) = xs

first_still : Still → List Still → Still
first_still none [] = none
first_still none (x ∷ xs) = x

rest_still : List Still → List Still
rest_still [] = []
rest_still (x ∷ xs) = xs

joined : (xs ys : List Exchange) → map bare xs ≡ map bare ys → map still xs ≡ map still ys → xs ≡ ys
unfolding first_in rest_in first_still rest_still
joined [] [] e k = refl
joined [] (y ∷ ys) e k = absurd (cc)
joined (x ∷ xs) [] e k = absurd (cc)
joined (x ∷ xs) (y ∷ ys) e k =
    let first = ap (first_in x) e in
    let kept = ap (λ (l : List Still). (first_still (still x) l).payloads) k in
    let rest = joined xs ys (ap rest_in e) (ap rest_still k) in
    λ i. record (first i) { kept = kept i } ∷ rest i

pub tells : ShownTellsTheRest
tells row one other items is its same = (joined one.open_ones other.open_ones (is.open_ones ∙ sym its.open_ones) same, is.next_id ∙ sym its.next_id)
