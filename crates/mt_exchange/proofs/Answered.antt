-- An answer, step by step.
use Rattle.std.proofs.Common.{◌≡◌, ℕ, suc, ◌+◌, ◌-◌, ◌%◌, ◌<◌, ◌≤◌, true, false, List, [], Option, Some, None, Result, Ok, Err, if◌then◌else◌, refl, ap, sym, ◌∙◌, arith}
use Rattle.std.proofs.lemmas.Bool.{cond-false, cond-true}
use Rattle.mt_model.specs.declared.texts.config.SessionRow.{SessionRow}
use Rattle.mt_model.specs.declared.messages.message.Payload.{Payload}
use Rattle.mt_session.specs.declared.fault.SealFault.{SealFault}
use Rattle.mt_session.specs.declared.fault.SealFault.TheVariants.{Exhausted, TooLong, Memory}
use Rattle.mt_session.specs.Sessions.{Message, next_counter}
use Rattle.mt_exchange.specs.declared.exchange.Key.{Key}
use Rattle.mt_exchange.specs.declared.exchange.Exchange.{Exchange}
use Rattle.mt_exchange.specs.Opened.{exchange_at, put}
use Rattle.mt_exchange.specs.Parts.{IsUntaken}
use Rattle.mt_exchange.specs.Runs.{Run, after_answer, answer_of, answer_sending}
use Rattle.mt_exchange.specs.Sending.{Sending, silence, alone, reliably, plainly, behind_payload, behind_sending, free_from, is_taken, message, sealed_with, sealing, sending}

abbrev pub Answer : Type 0
Answer = Result (Option (List ℕ)) SealFault

-- an answer behind which the exchange is changed
abbrev pub IsFinal : Answer → Type 0
IsFinal (Ok sent) = Unit {0}
IsFinal (Err Exhausted) = Unit {0}
IsFinal (Err TooLong) = ⊥
IsFinal (Err Memory) = ⊥

-- what was kept does not count where the first of it is sent
behind-alike : (s : Sending) (counter now : ℕ) (answer : Answer) (x y : Exchange) → IsFinal answer
    → ((kept : List Payload) → record x { kept = kept } ≡ record y { kept = kept }) → (IsUntaken s → x ≡ y)
    → behind_sending s counter now answer x ≡ behind_sending s counter now answer y
behind-alike (reliably p rest) counter now (Ok (Some bytes)) x y final alike same = ap (behind_payload p rest counter bytes now) (alike [])
behind-alike (reliably p rest) counter now (Ok None) x y final alike same = ap (λ (z : Exchange). record z { unanswered = false }) (alike [])
behind-alike (reliably p rest) counter now (Err Exhausted) x y final alike same = ap (λ (z : Exchange). record z { unanswered = false }) (alike [])
behind-alike (reliably p rest) counter now (Err TooLong) x y final alike same = absurd final
behind-alike (reliably p rest) counter now (Err Memory) x y final alike same = absurd final
behind-alike silence counter now answer x y final alike same = ap (λ (z : Exchange). record z { unanswered = false }) (same tt)
behind-alike (alone c) counter now (Ok sent) x y final alike same = ap (λ (z : Exchange). record z { unanswered = false }) (same tt)
behind-alike (alone c) counter now (Err Exhausted) x y final alike same = ap (λ (z : Exchange). record z { unanswered = false }) (same tt)
behind-alike (alone c) counter now (Err TooLong) x y final alike same = absurd final
behind-alike (alone c) counter now (Err Memory) x y final alike same = absurd final
behind-alike (plainly p) counter now answer x y final alike same = same tt

pub exhausted-any : (s : Sending) (counter now : ℕ) (x : Exchange) → behind_sending s 0 0 (Err Exhausted) x ≡ behind_sending s counter now (Err Exhausted) x
exhausted-any (reliably p rest) counter now x = refl
exhausted-any silence counter now x = refl
exhausted-any (alone c) counter now x = refl
exhausted-any (plainly p) counter now x = refl

pub unsealed : (messages : List Message) (found : Option Message) (fault : SealFault) → sealed_with messages found (Err fault) ≡ messages
unsealed messages None fault = refl
unsealed messages (Some m) fault = refl

module _ (row : SessionRow) (r : Run) (key : Key) (acknowledge : Option ℕ) (payloads : List Payload) (now : ℕ) (old : List Exchange)
    (x0 x1 : Exchange) (s : Sending) (counter : ℕ) (is_old : old ≡ r.open_ones) (taken0 : x0 ≡ exchange_at key old)
    (is_s : s ≡ sending x0 acknowledge payloads)
    (alike : (kept : List Payload) → record x1 { kept = kept } ≡ record x0 { kept = kept }) (same : IsUntaken s → x1 ≡ x0)
    (is_counter : counter ≡ next_counter row r.messages) where
  x0-is : x0 ≡ exchange_at key r.open_ones
  x0-is = taken0 ∙ ap (exchange_at key) is_old

  s-is : s ≡ answer_sending r key acknowledge payloads
  s-is = is_s ∙ ap (λ (x : Exchange). sending x acknowledge payloads) x0-is

  pub answer-is : (answer : Answer) → sealing row r.messages (message key acknowledge s) ≡ answer → answer_of row r key acknowledge payloads ≡ answer
  answer-is answer e = ap (λ (z : Sending). sealing row r.messages (message key acknowledge z)) (sym s-is) ∙ e

  pub messages-is : (answer : Answer) → answer_of row r key acknowledge payloads ≡ answer
      → sealed_with r.messages (message key acknowledge s) answer ≡ (after_answer row key acknowledge payloads now r).messages
  messages-is answer e = λ i. sealed_with r.messages (message key acknowledge (s-is i)) (sym e i)

  pub open-is : (answer : Answer) (x2 : Exchange) (t2 : List Exchange) → IsFinal answer → answer_of row r key acknowledge payloads ≡ answer
      → x2 ≡ behind_sending s counter now answer x1 → t2 ≡ put x2 old → t2 ≡ (after_answer row key acknowledge payloads now r).open_ones
  open-is answer x2 t2 final e is_x2 put2 =
      let changed : x2 ≡ behind_sending s counter now answer x0 = is_x2 ∙ behind-alike s counter now answer x1 x0 final alike same in
      put2 ∙ (λ i. put ((changed ∙ (λ j. behind_sending (s-is j) (is_counter j) now (sym e j) (x0-is j))) i) (is_old i))

-- the search for a free id
pub free-step : (id n : ℕ) (xs : List Exchange) → n < 65536
    → free_from id (65536 - n) xs ≡ (if is_taken xs id then free_from ((id + 1) % 65536) (65536 - (n + 1)) xs else Some id)
unfolding free_from
free-step id n xs lt = let e : 65536 - n ≡ suc (65536 - (n + 1)) = omega arith in ap (λ (m : ℕ). free_from id m xs) e

pub free-none : (id n : ℕ) (xs : List Exchange) → 65536 ≤ n → free_from id (65536 - n) xs ≡ None
unfolding free_from
free-none id n xs le = let e : 65536 - n ≡ 0 = omega arith in ap (λ (m : ℕ). free_from id m xs) e

pub free-here : (id n : ℕ) (xs : List Exchange) → n < 65536 → is_taken xs id ≡ false → free_from id (65536 - n) xs ≡ Some id
free-here id n xs lt free = free-step id n xs lt ∙ cond-false (is_taken xs id) _ _ free

pub free-on : (id n : ℕ) (xs : List Exchange) → n < 65536 → is_taken xs id ≡ true
    → free_from id (65536 - n) xs ≡ free_from ((id + 1) % 65536) (65536 - (n + 1)) xs
free-on id n xs lt taken = free-step id n xs lt ∙ cond-true (is_taken xs id) _ _ taken
