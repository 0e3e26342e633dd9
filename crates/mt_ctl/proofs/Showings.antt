-- Datagrams that are opened one after the other.
use Rattle.std.proofs.Common.{◌≡◌, ℕ, suc, ◌+◌, ◌<◌, Bool, true, false, cond, List, [], ◌∷◌, ◌++◌, length, drop, get_or, sym, ap, ◌∙◌, add-one, drop-cons, zero, ◌^◌, subst, arith}
use Rattle.std.specs.Prelude.{All}
use Rattle.std.proofs.lemmas.List.{append_assoc}
use Rattle.std.proofs.lemmas.List.Elements.{All-head, All-tail}
use Rattle.mt_model.specs.declared.texts.config.SessionRow.{SessionRow}
use Rattle.mt_model.specs.declared.texts.recording.Sent.{Sent}
use Rattle.mt_session.specs.Opening.{Arrival, received}
use Rattle.mt_session.specs.Sessions.{arrivals_by, counters}
use Rattle.mt_ctl.specs.declared.showing.Shown.{Shown}
use Rattle.mt_ctl.specs.Showing.{datagrams_in, is_sealed_to, shown_as, shown_behind}

-- what is left from a message on
pub sent_at : (sent : List Sent) (i : ℕ) (message : Sent) → i < length sent → message ≡ get_or sent i message → drop i sent ≡ message ∷ drop (i + 1) sent
sent_at sent i message lt is = rw add-one (drop-cons sent i message lt ∙ ap (λ (m : Sent). m ∷ drop (suc i) sent) (sym is))

-- what is passed over is none of the datagrams
pub passed_over : (sent : List Sent) (i : ℕ) (message : Sent) → i < length sent → message ≡ get_or sent i message → is_sealed_to message.to ≡ false
    → datagrams_in (drop i sent) ≡ datagrams_in (drop (i + 1) sent)
passed_over sent i message lt is plain =
    ap datagrams_in (sent_at sent i message lt is)
    ∙ ap (λ (t : Bool). cond t (message ∷ datagrams_in (drop (i + 1) sent)) (datagrams_in (drop (i + 1) sent))) plain

-- what is shown so far, with what is shown of a datagram, and of the rest
pub shown_more : (row : SessionRow) (arrivals : List Arrival) (sent : List Sent) (i : ℕ) (message : Sent) (items new all : List Shown) (item : Shown)
    → i < length sent → message ≡ get_or sent i message → is_sealed_to message.to ≡ true
    → item ≡ shown_as message.ms (received row (counters arrivals) message.bytes) → new ≡ items ++ item ∷ []
    → items ++ shown_behind row arrivals (datagrams_in (drop i sent)) ≡ all
    → new ++ shown_behind row (arrivals_by arrivals (received row (counters arrivals) message.bytes)) (datagrams_in (drop (i + 1) sent)) ≡ all
shown_more row arrivals sent i message items new all item lt is to_peer told pushed so_far =
    let rest = datagrams_in (drop (i + 1) sent) in
    let behind = shown_behind row (arrivals_by arrivals (received row (counters arrivals) message.bytes)) rest in
    let there : datagrams_in (drop i sent) ≡ message ∷ rest =
    ap datagrams_in (sent_at sent i message lt is) ∙ ap (λ (t : Bool). cond t (message ∷ rest) rest) to_peer in
    (λ j. pushed j ++ behind)
    ∙ append_assoc items (item ∷ []) behind
    ∙ (λ j. items ++ told j ∷ behind)
    ∙ ap (λ ms. items ++ shown_behind row arrivals ms) (sym there)
    ∙ so_far

-- each datagram is short

abbrev IsShort : Sent → Type 0
IsShort message = length message.bytes < 2 ^ 16

pub short_at : (sent : List Sent) (i : ℕ) (message : Sent) → i < length sent → message ≡ get_or sent i message → is_sealed_to message.to ≡ true
    → All IsShort (datagrams_in sent) → length message.bytes < 2 ^ 16
short_at [] i message lt is sealed short = absurd (omega arith)
short_at (first ∷ sent) zero message lt is sealed short =
    let to_peer : is_sealed_to first.to ≡ true = ap (λ (m : Sent). is_sealed_to m.to) (sym is) ∙ sealed in
    let all : All IsShort (first ∷ datagrams_in sent) =
    (let P : Bool → Type 0 = λ t. All IsShort (cond t (first ∷ datagrams_in sent) (datagrams_in sent)) in subst P to_peer short) in
    subst IsShort (sym is) (All-head IsShort first (datagrams_in sent) all)
short_at (first ∷ sent) (suc i) message lt is sealed short =
    short_at sent i message (omega arith) is sealed (by_case (is_sealed_to first.to) short)
  where
    by_case : (t : Bool) → All IsShort (cond t (first ∷ datagrams_in sent) (datagrams_in sent)) → All IsShort (datagrams_in sent)
    by_case true all = All-tail IsShort first (datagrams_in sent) all
    by_case false all = all
