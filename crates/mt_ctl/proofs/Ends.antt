-- What one side seals, the other opens, one message after the other.
use Rattle.std.proofs.Common.{◌≡◌, ◌≢◌, ℕ, suc, ◌+◌, ◌<◌, ◌≤◌, ◌^◌, Bool, true, false, cond, eqb, List, [], ◌∷◌, ◌++◌, length, map, Some, None, Ok, refl, ap, ◌∙◌, arith}
use Rattle.std.specs.Prelude.{All, ◌||◌}
use Rattle.std.proofs.lemmas.Bool.{eqb-false, ne_eqb}
use Rattle.std.proofs.lemmas.List.Elements.{All-head, All-tail}
use Rattle.mt_frame.specs.declared.header.ProtocolHeader.{ProtocolHeader}
use Rattle.mt_frame.specs.Writing.{IsMessage, IsProtocol}
use Rattle.mt_window.specs.Counters.{greatest_of, seen, was_accepted}
use Rattle.mt_window.specs.declared.window.Seen.TheVariants.{Fresh}
use Rattle.mt_model.specs.declared.texts.config.SessionRow.{SessionRow}
use Rattle.mt_model.specs.declared.texts.recording.Sent.{Sent}
use Rattle.mt_session.specs.Datagrams.{datagram, mirror, sent_header}
use Rattle.mt_session.specs.Opening.{Arrival, received}
use Rattle.mt_session.specs.Sessions.{Message, arrivals_by, counters}
use Rattle.mt_ctl.specs.declared.steps.Step.{Step}
use Rattle.mt_ctl.specs.Asking.{datagrams_told, events_from, exhausted_from}
use Rattle.mt_ctl.specs.Hearing.{answers_behind, datagrams_from, numbered}
use Rattle.mt_ctl.specs.Showing.{bytes_of, shown_behind, shown_each, shown_as}
use Rattle.mt_ctl.specs.Steps.{header_of, messages_from, next_behind}

-- Counters that were let in, each below this one.
abbrev pub AreBelow : ℕ → List ℕ → Type 0
AreBelow counter [] = Unit {0}
AreBelow counter (x ∷ xs) = (x < counter) × AreBelow counter xs

greatest_below : (accepted : List ℕ) (start counter : ℕ) → start ≤ counter → AreBelow counter accepted → greatest_of start accepted ≤ counter
greatest_below [] start counter le below = le
greatest_below (x ∷ xs) start counter le below =
    let first = below.0 in
    greatest_below xs _ counter (omega arith) below.1

not_accepted : (accepted : List ℕ) (counter : ℕ) → AreBelow counter accepted → was_accepted accepted counter ≡ false
not_accepted [] counter below = refl
not_accepted (x ∷ xs) counter below =
    let first = below.0 in
    let other : eqb counter x ≡ false = ne_eqb counter x (λ e. omega arith) in
    (λ i. other i || was_accepted xs counter) ∙ not_accepted xs counter below.1

below_later : (xs : List ℕ) (counter : ℕ) → AreBelow counter xs → AreBelow (counter + 1) xs
below_later [] counter below = tt
below_later (x ∷ xs) counter below = (let first = below.0 in omega arith, below_later xs counter below.1)

below_more : (arrivals : List Arrival) (a : Arrival) → AreBelow a.counter (counters arrivals) → AreBelow (a.counter + 1) (counters (arrivals ++ a ∷ []))
below_more [] a below = (omega arith, tt)
below_more (b ∷ arrivals) a below = (let first = below.0 in omega arith, below_more arrivals a below.1)

-- what a law of windows says of a new counter
abbrev pub FreshLaw : Type 0
FreshLaw = (start : ℕ) (accepted : List ℕ) (counter : ℕ) → greatest_of start accepted ≤ counter + 32 → was_accepted accepted counter ≡ false
    → seen start accepted counter ≡ Fresh

-- what a law of sessions says of a sealed datagram
abbrev pub OpenLaw : SessionRow → Type 0
OpenLaw row = (accepted : List ℕ) (counter : ℕ) (header : ProtocolHeader) (payload : List ℕ)
    → IsMessage (sent_header row counter) → IsProtocol header → seen row.counter_out accepted counter ≡ Fresh
    → received (mirror row) accepted (datagram row counter header payload) ≡ Ok (record { counter = counter; header = header; payload = payload })

abbrev pub IsSpelled : Message → Type 0
IsSpelled message = IsProtocol message.header

module _ (row : SessionRow) (fresh : FreshLaw) (opens : OpenLaw row) (secured : row.peer_session ≢ 0) (narrow : row.peer_session < 2 ^ 16) where
  opened_next : (arrivals : List Arrival) (counter : ℕ) (message : Message) → row.counter_out ≤ counter → counter < 4294967296
      → AreBelow counter (counters arrivals) → IsSpelled message
      → received (mirror row) (counters arrivals) (datagram row counter message.header message.payload)
      ≡ Ok (record { counter = counter; header = message.header; payload = message.payload })
  opened_next arrivals counter message from fits below spelled =
      let least : greatest_of row.counter_out (counters arrivals) ≤ counter = greatest_below (counters arrivals) row.counter_out counter from below in
      opens (counters arrivals) counter message.header message.payload
      (record { is_secured = secured; session = narrow; counter = fits; source = tt; destination = tt }) spelled
      (fresh row.counter_out (counters arrivals) counter (omega arith) (not_accepted (counters arrivals) counter below))

  pub answers-sealed : (messages : List Message) (arrivals : List Arrival) (counter : ℕ) → row.counter_out ≤ counter → counter + length messages ≤ 4294967295
      → AreBelow counter (counters arrivals) → All IsSpelled messages
      → answers_behind (mirror row) arrivals (datagrams_from row counter messages) ≡ map Ok (numbered counter messages)
  answers-sealed [] arrivals counter from few below spelled = refl
  answers-sealed (message ∷ messages) arrivals counter from few below spelled =
      let a : Arrival = record { counter = counter; header = message.header; payload = message.payload } in
      let is = opened_next arrivals counter message from (omega arith) below (All-head IsSpelled message messages spelled) in
      (λ i. is i ∷ answers_behind (mirror row) (arrivals_by arrivals (is i)) (datagrams_from row (counter + 1) messages))
      ∙ ap (λ rest. Ok a ∷ rest)
      (answers-sealed messages (arrivals ++ a ∷ []) (counter + 1) (omega arith) (omega arith) (below_more arrivals a below)
      (All-tail IsSpelled message messages spelled))

-- the datagrams of events that are asked
pub told-asked : (row : SessionRow) (steps : List Step) (counter next : ℕ) → datagrams_told (events_from row counter next steps) ≡ datagrams_from row counter (messages_from next steps)
told-asked row [] counter next = refl
told-asked row (step ∷ steps) counter next =
    ap (λ rest. datagram row counter (header_of next step) step.payload ∷ rest) (told-asked row steps (counter + 1) (next_behind next step.kind))

pub length-messages_from : (steps : List Step) (next : ℕ) → length (messages_from next steps) ≡ length steps
length-messages_from [] next = refl
length-messages_from (step ∷ steps) next = ap (λ n. suc n) (length-messages_from steps (next_behind next step.kind))

-- where no counter runs out there are enough
pub counters_left : (steps : List Step) (line counter : ℕ) → counter ≤ 4294967295 → exhausted_from line counter steps ≡ None → counter + length steps ≤ 4294967295
counters_left [] line counter below none = omega arith
counters_left (step ∷ steps) line counter below none =
    by_case (eqb counter 4294967295) refl none (counters_left steps (line + 1) (counter + 1))
  where
    by_case : (t : Bool) → eqb counter 4294967295 ≡ t → cond t (Some line) (exhausted_from (line + 1) (counter + 1) steps) ≡ None
        → (counter + 1 ≤ 4294967295 → exhausted_from (line + 1) (counter + 1) steps ≡ None → counter + 1 + length steps ≤ 4294967295)
        → counter + suc (length steps) ≤ 4294967295
    by_case true is h rest = absurd (cc)
    by_case false is h rest =
        let other = eqb-false counter 4294967295 is in
        let more = rest (omega arith) h in
        omega arith

-- what is shown, by what is answered
pub shown-answered : (row : SessionRow) (arrivals : List Arrival) (sent : List Sent)
    → shown_behind row arrivals sent ≡ shown_each sent (answers_behind row arrivals (bytes_of sent))
shown-answered row arrivals [] = refl
shown-answered row arrivals (message ∷ sent) =
    ap (λ rest. shown_as message.ms (received row (counters arrivals) message.bytes) ∷ rest)
    (shown-answered row (arrivals_by arrivals (received row (counters arrivals) message.bytes)) sent)

-- one more message has the next datagram
pub datagrams-append : (row : SessionRow) (messages : List Message) (message : Message) (counter : ℕ)
    → datagrams_from row counter (messages ++ message ∷ [])
    ≡ datagrams_from row counter messages ++ datagram row (counter + length messages) message.header message.payload ∷ []
datagrams-append row [] message counter =
    let same : counter ≡ counter + 0 = omega arith in
    ap (λ (n : ℕ). datagram row n message.header message.payload ∷ []) same
datagrams-append row (first ∷ messages) message counter =
    let same : counter + 1 + length messages ≡ counter + suc (length messages) = omega arith in
    ap (λ rest. datagram row counter first.header first.payload ∷ rest)
    (datagrams-append row messages message (counter + 1)
    ∙ ap (λ (n : ℕ). datagrams_from row (counter + 1) messages ++ datagram row n message.header message.payload ∷ []) same)
