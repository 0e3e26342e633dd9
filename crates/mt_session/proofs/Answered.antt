-- The tests of a datagram, one after the other.
use Rattle.std.proofs.Common.{◌≡◌, ℕ, ◌≤◌, ◌==◌, Bool, true, false, not, List, [], ◌∷◌, ◌++◌, drop, slice_index, Option, Some, None, Ok, Err, refl, ap, sym, subst, ◌∙◌, arith, eq-eqb, if◌then◌else◌}
use Rattle.std.proofs.lemmas.List.{map-append}
use Rattle.mt_frame.specs.declared.header.MessageHeader.{MessageHeader}
use Rattle.mt_frame.specs.declared.header.ProtocolHeader.{ProtocolHeader}
use Rattle.mt_frame.specs.declared.fault.FrameFault.{FrameFault}
use Rattle.mt_frame.specs.Reading.{has_destination, has_source, message_at, message_length, protocol_at, unless, width_where}
use Rattle.mt_window.specs.Counters.{seen, accepted_after, accepted_by}
use Rattle.mt_window.specs.Standing.{StandsFor}
use Rattle.mt_window.specs.declared.window.Window.{Window}
use Rattle.mt_window.specs.declared.window.Seen.{Seen}
use Rattle.mt_window.specs.declared.window.Seen.TheVariants.{Fresh}
use Rattle.mt_model.specs.declared.texts.config.SessionRow.{SessionRow}
use Rattle.mt_session.specs.declared.opening.Dropped.TheVariants.{NotSealed, OtherSession, Source}
use Rattle.mt_session.specs.Opening.{Arrival, addressed, framed, is_foreign, received, under_seal, unsealed, windowed}
use Rattle.mt_session.specs.Sessions.{counters}

pub framed_by : (row : SessionRow) (accepted : List ℕ) (counter : ℕ) (plain : List ℕ) (x : ProtocolHeader × ℕ) (s : Seen)
    → Ok x ≡ protocol_at plain → s ≡ seen row.counter_in accepted counter
    → windowed s counter x.0 (drop x.1 plain) ≡ framed row accepted counter plain (protocol_at plain)
framed_by row accepted counter plain x s is was =
    ap (λ (t : Seen). windowed t counter x.0 (drop x.1 plain)) was
    ∙ ap (framed row accepted counter plain) is

-- the window once a counter was let in
pub window_is : (window : Window) (start : ℕ) (arrivals : List Arrival) (a : Arrival) → Fresh ≡ seen start (counters arrivals) a.counter
    → StandsFor window start (accepted_after start (counters arrivals) a.counter)
    → StandsFor window start (counters (arrivals ++ a ∷ []))
window_is window start arrivals a fresh stands =
    let same : accepted_after start (counters arrivals) a.counter ≡ counters (arrivals ++ a ∷ []) =
    ap (λ (s : Seen). accepted_by s (counters arrivals) a.counter) (sym fresh)
    ∙ sym (map-append (λ (b : Arrival). b.counter) arrivals (a ∷ [])) in
    let P : List ℕ → Type 0 = λ accepted. StandsFor window start accepted in
    subst P same stands

-- the tests behind the message header
module _ (accepted bytes : List ℕ) (x : MessageHeader × ℕ) (read : Ok x ≡ message_at bytes) where
  addressed_by : (row : SessionRow) (own foreign : Bool) → own ≡ (x.0.session == row.session) → own ≡ true → foreign ≡ is_foreign row x.0 → foreign ≡ false
      → under_seal row accepted x.0.counter (unsealed row x.0.counter x.1 bytes) ≡ received row accepted bytes
  addressed_by row own foreign is_own at_home is_foreign_of known =
      (λ i. if not ((sym at_home ∙ is_own) i) then Err OtherSession
      else if (sym known ∙ is_foreign_of) i then Err Source
      else under_seal row accepted x.0.counter (unsealed row x.0.counter x.1 bytes))
      ∙ ap (addressed row accepted bytes) read

  pub opens_by : (kept row : SessionRow) → kept ≡ row → x.0.session ≡ kept.session → is_foreign kept x.0 ≡ false
      → (plain : List ℕ) → unsealed kept x.0.counter x.1 bytes ≡ Some plain
      → framed row accepted x.0.counter plain (protocol_at plain) ≡ received row accepted bytes
  opens_by kept row same own home plain is =
      let P : SessionRow → Type 0 = λ r. framed r accepted x.0.counter plain (protocol_at plain) ≡ received r accepted bytes in
      subst P same (ap (under_seal kept accepted x.0.counter) (sym is)
      ∙ addressed_by kept (x.0.session == kept.session) (is_foreign kept x.0) refl (eq-eqb x.0.session kept.session own) refl home)

  pub drops_by : (kept row : SessionRow) → kept ≡ row → x.0.session ≡ kept.session → is_foreign kept x.0 ≡ false
      → unsealed kept x.0.counter x.1 bytes ≡ None → Err NotSealed ≡ received row accepted bytes
  drops_by kept row same own home is =
      let P : SessionRow → Type 0 = λ r. Err NotSealed ≡ received r accepted bytes in
      subst P same (ap (under_seal kept accepted x.0.counter) (sym is)
      ∙ addressed_by kept (x.0.session == kept.session) (is_foreign kept x.0) refl (eq-eqb x.0.session kept.session own) refl home)

-- a message header has 24 bytes at most
width_le : (there : Bool) → width_where there 8 ≤ 8
width_le true = omega arith
width_le false = omega arith

length_by : {A : Type 0} (f : Option FrameFault) (a b : A) → Ok a ≡ unless f b → a ≡ b
length_by None a b e = cc
length_by (Some fault) a b e = cc

pub header_short : (bytes : List ℕ) (x : MessageHeader × ℕ) → Ok x ≡ message_at bytes → x.1 ≤ 24
header_short bytes x e =
    let flags : ℕ = slice_index bytes 0 in
    let is : x.1 ≡ message_length flags = ap (λ (y : MessageHeader × ℕ). y.1) (length_by _ x _ e) in
    omega (arith, is, width_le (has_source flags), width_le (has_destination flags))
