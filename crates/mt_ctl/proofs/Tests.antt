-- The tests of a datagram, one after the other.
use Rattle.std.proofs.Common.{◌≡◌, ℕ, ◌==◌, Bool, true, false, not, cond, List, [], ◌∷◌, drop, Option, Some, None, Result, Ok, Err, is_some, unwrap_or, refl, sym, ap, ◌∙◌}
use Rattle.std.specs.Prelude.{is_none}
use Rattle.mt_ccm.specs.Ccm.{Sealed}
use Rattle.mt_frame.specs.declared.fault.FrameFault.{FrameFault}
use Rattle.mt_frame.specs.declared.header.ProtocolHeader.{ProtocolHeader}
use Rattle.mt_frame.specs.Reading.{message_fault, message_in, protocol_at, protocol_fault, unless}
use Rattle.mt_model.specs.declared.texts.config.SessionRow.{SessionRow}
use Rattle.mt_model.specs.declared.texts.recording.Sent.{Sent}
use Rattle.mt_session.specs.declared.opening.Dropped.{Dropped}
use Rattle.mt_session.specs.declared.opening.Dropped.TheVariants as dropped
use Rattle.mt_session.specs.Datagrams.{mirror, opened}
use Rattle.mt_session.specs.Opening.{Arrival, addressed, framed, is_foreign, received, under_seal, unsealed, windowed}
use Rattle.mt_session.specs.Sessions.{arrivals_by, counters}
use Rattle.mt_window.specs.Counters.{seen}
use Rattle.mt_window.specs.declared.window.Seen.{Seen}
use Rattle.mt_window.specs.declared.window.Seen.TheVariants.{Fresh, Duplicate, Old}
use Rattle.mt_ctl.specs.Showing.{shown_as, shown_behind}
use Rattle.mt_ctl.specs.Testing.{AreToldOf, IsToldOf, IsSealedIn, closed_by, first_failing, head_length, is_duplicate, is_old, tests}

-- Which test closes.

by_window : (s : Seen) (counter : ℕ) (header : ProtocolHeader) (payload : List ℕ)
    → closed_by (windowed s counter header payload) ≡ cond (is_duplicate s) (Some 4) (cond (is_old s) (Some 5) None)
by_window Fresh counter header payload = refl
by_window Duplicate counter header payload = refl
by_window Old counter header payload = refl

by_protocol : (row : SessionRow) (accepted : List ℕ) (counter : ℕ) (plain : List ℕ) (f : Option FrameFault) (x : ProtocolHeader × ℕ)
    → closed_by (framed row accepted counter plain (unless f x))
    ≡ cond (is_some f) (Some 1) (cond (is_duplicate (seen row.counter_in accepted counter)) (Some 4) (cond (is_old (seen row.counter_in accepted counter)) (Some 5) None))
by_protocol row accepted counter plain None x = by_window (seen row.counter_in accepted counter) counter x.0 (drop x.1 plain)
by_protocol row accepted counter plain (Some fault) x = refl

by_seal : (row : SessionRow) (accepted : List ℕ) (counter : ℕ) (found : Option (List ℕ))
    → closed_by (under_seal row accepted counter found)
    ≡ cond (is_none found) (Some 3) (cond (is_some (protocol_fault (unwrap_or found []))) (Some 1)
    (cond (is_duplicate (seen row.counter_in accepted counter)) (Some 4) (cond (is_old (seen row.counter_in accepted counter)) (Some 5) None)))
by_seal row accepted counter None = refl
by_seal row accepted counter (Some plain) = by_protocol row accepted counter plain (protocol_fault plain) _

by_address : (home foreign : Bool) (answer : Result Arrival Dropped)
    → closed_by (cond (not home) (Err dropped.OtherSession) (cond foreign (Err dropped.Source) answer))
    ≡ cond (not home) (Some 2) (cond foreign (Some 6) (closed_by answer))
by_address true true answer = refl
by_address true false answer = refl
by_address false foreign answer = refl

by_frame : (row : SessionRow) (accepted bytes : List ℕ) (f : Option FrameFault)
    → closed_by (addressed row accepted bytes (unless f (message_in bytes, head_length bytes)))
    ≡ cond (is_some f) (Some 1) (cond (not ((message_in bytes).session == row.session)) (Some 2) (cond (is_foreign row (message_in bytes)) (Some 6)
    (closed_by (under_seal row accepted (message_in bytes).counter (unsealed row (message_in bytes).counter (head_length bytes) bytes)))))
by_frame row accepted bytes (Some fault) = refl
by_frame row accepted bytes None =
    by_address ((message_in bytes).session == row.session) (is_foreign row (message_in bytes))
    (under_seal row accepted (message_in bytes).counter (unsealed row (message_in bytes).counter (head_length bytes) bytes))

pub first_closes : (row : SessionRow) (accepted bytes : List ℕ) → closed_by (received row accepted bytes) ≡ first_failing (tests row accepted bytes)
first_closes row accepted bytes =
    by_frame row accepted bytes (message_fault bytes)
    ∙ ap (λ (rest : Option ℕ). cond (is_some (message_fault bytes)) (Some 1) (cond (not ((message_in bytes).session == row.session)) (Some 2) (cond (is_foreign row (message_in bytes)) (Some 6) rest)))
    (by_seal row accepted (message_in bytes).counter (unsealed row (message_in bytes).counter (head_length bytes) bytes))

-- What opens is sealed.

abbrev pub OpenedLaw : Type 0
OpenedLaw = (key mark aad plain bytes : List ℕ) → opened key mark aad bytes ≡ Some plain → Sealed key mark aad plain bytes

module _ (row : SessionRow) (accepted bytes : List ℕ) (a : Arrival) (law : OpenedLaw) where
  abbrev lets_in : Result Arrival Dropped
  lets_in = Ok a

  abbrev counter_in : ℕ
  counter_in = (message_in bytes).counter

  abbrev Goal : Type 0
  Goal = IsSealedIn row bytes a.header a.payload

  let_in_by : (s : Seen) (header : ProtocolHeader) (payload : List ℕ) → windowed s counter_in header payload ≡ lets_in → (header ≡ a.header) × (payload ≡ a.payload)
  let_in_by Fresh header payload h =
      let arrived : Arrival = record { counter = counter_in; header = header; payload = payload } in
      let same : arrived ≡ a = cc in
      (ap (λ (b : Arrival). b.header) same, ap (λ (b : Arrival). b.payload) same)
  let_in_by Duplicate header payload h = absurd (cc)
  let_in_by Old header payload h = absurd (cc)

  read_by : (plain : List ℕ) (f : Option FrameFault) (x : ProtocolHeader × ℕ) → protocol_at plain ≡ unless f x
      → unsealed (mirror row) counter_in (head_length bytes) bytes ≡ Some plain
      → framed (mirror row) accepted counter_in plain (unless f x) ≡ lets_in → Goal
  read_by plain (Some fault) x read is h = absurd (cc)
  read_by plain None x read is h =
      let parts = let_in_by (seen (mirror row).counter_in accepted counter_in) x.0 (drop x.1 plain) h in record {
        plain = plain;
        len = x.1;
        is_sealed = law _ _ _ plain _ is;
        is_header = read ∙ (λ i. Ok (parts.0 i, x.1));
        is_payload = sym parts.1;
      }

  seal_by : (found : Option (List ℕ)) → unsealed (mirror row) counter_in (head_length bytes) bytes ≡ found
      → under_seal (mirror row) accepted counter_in found ≡ lets_in → Goal
  seal_by None is h = absurd (cc)
  seal_by (Some plain) is h = read_by plain (protocol_fault plain) _ refl is h

  home_by : (home foreign : Bool) → cond (not home) (Err dropped.OtherSession) (cond foreign (Err dropped.Source)
      (under_seal (mirror row) accepted counter_in (unsealed (mirror row) counter_in (head_length bytes) bytes))) ≡ lets_in → Goal
  home_by true true h = absurd (cc)
  home_by true false h = seal_by (unsealed (mirror row) counter_in (head_length bytes) bytes) refl h
  home_by false foreign h = absurd (cc)

  frame_by : (f : Option FrameFault) → addressed (mirror row) accepted bytes (unless f (message_in bytes, head_length bytes)) ≡ lets_in → Goal
  frame_by (Some fault) h = absurd (cc)
  frame_by None h = home_by ((message_in bytes).session == (mirror row).session) (is_foreign (mirror row) (message_in bytes)) h

  pub is_sealed_in : received (mirror row) accepted bytes ≡ Ok a → IsSealedIn row bytes a.header a.payload
  is_sealed_in h = frame_by (message_fault bytes) h

-- What is shown.

pub told_of : (row : SessionRow) (law : OpenedLaw) (arrivals : List Arrival) (sent : List Sent) → AreToldOf row arrivals sent (shown_behind (mirror row) arrivals sent)
told_of row law arrivals [] = tt
told_of row law arrivals (message ∷ sent) = (
  by_answer (received (mirror row) (counters arrivals) message.bytes) refl,
  told_of row law (arrivals_by arrivals (received (mirror row) (counters arrivals) message.bytes)) sent,
)
  where
    by_answer : (answer : Result Arrival Dropped) → received (mirror row) (counters arrivals) message.bytes ≡ answer
        → IsToldOf row (counters arrivals) message (shown_as message.ms answer)
    by_answer (Ok a) is = (
      refl,
      is_sealed_in row (counters arrivals) message.bytes a law is,
      sym (first_closes (mirror row) (counters arrivals) message.bytes) ∙ ap closed_by is,
    )
    by_answer (Err dropped) is = (refl, sym (first_closes (mirror row) (counters arrivals) message.bytes) ∙ ap closed_by is)
