-- What a fabric holds of a whole, its own part says; and a stop leaves it that.
use Rattle.std.proofs.Common.{◌≡◌, ℕ, ◌&&◌, not, Bool, true, false, List, [], ◌∷◌, Some, None, inl, inr, refl, sym, ap, ◌∙◌, filter, map, if◌then◌else◌}
use Rattle.std.proofs.lemmas.Bool.{cases_Bool}
use Rattle.mt_fabrics.specs.Table.{has_index, is_used}
use Rattle.mt_model.specs.declared.node.state.NodeSession.{NodeSession}
use Rattle.mt_model.specs.declared.node.state.NodeState.{NodeState}
use Rattle.mt_model.specs.declared.tables.fabric.Fabric.{Fabric}
use Rattle.mt_model.specs.declared.texts.recording.Event.TheVariants as events
use Rattle.mt_machine.specs.Step.{closed_between, is_live}
use Rattle.mt_runs.specs.Isolation.{own_part}
use Rattle.mt_runs.specs.Laws.{StopsLeaveAll}
use Rattle.mt_runs.specs.Whole.{SessionTalk, Whole, let_go, without_ended}
use Rattle.mt_runs.specs.Marks.{is_in}
use Rattle.mt_runs.specs.Replay.{held, if_there}
use Rattle.mt_runs.proofs.Absent.{contradiction}

-- Whether it is in the table, its own row of the table says.
pub used_own : (fabric : ℕ) (fabrics : List Fabric) → is_used fabric (filter (has_index fabric) fabrics) ≡ is_used fabric fabrics
used_own fabric [] = refl
used_own fabric (f ∷ fabrics) = elim (cases_Bool (has_index fabric f)) [
  | inl its ↦ rw (its, its) refl
  | inr other ↦ rw other (used_own fabric fabrics)
]

pub as_held : (fabric : ℕ) (w : Whole) → if_there fabric (own_part fabric w) ≡ held fabric w
as_held fabric w = ap (λ (b : Bool). if b then Some (own_part fabric w) else None) (used_own fabric w.state.node.fabrics)

pub held_same : (fabric : ℕ) (w v : Whole) → own_part fabric w ≡ own_part fabric v → held fabric w ≡ held fabric v
held_same fabric w v same = sym (as_held fabric w) ∙ ap (if_there fabric) same ∙ as_held fabric v

pub held_in : (fabric : ℕ) (w : Whole) → is_in fabric w ≡ true → held fabric w ≡ Some (own_part fabric w)
held_in fabric w there = ap (λ (b : Bool). if b then Some (own_part fabric w) else None) there

pub held_out : (fabric : ℕ) (w : Whole) → is_in fabric w ≡ false → held fabric w ≡ None
held_out fabric w out = ap (λ (b : Bool). if b then Some (own_part fabric w) else None) out

-- A stop leaves all as it is: no session ends.

not_both : (b : Bool) → (b && not b) ≡ false
not_both true = refl
not_both false = refl

none_closed : (sessions : List NodeSession) → closed_between sessions sessions ≡ []
none_closed [] = refl
none_closed (session ∷ sessions) =
    ap (λ (b : Bool). if b then session.session ∷ closed_between sessions sessions else closed_between sessions sessions) (not_both (is_live session.standing))
    ∙ none_closed sessions

none_ended : (talks : List SessionTalk) → map (without_ended []) talks ≡ talks
none_ended [] = refl
none_ended (t ∷ talks) = ap (λ (rest : List SessionTalk). t ∷ rest) (none_ended talks)

none_let_go : (s : NodeState) (talks : List SessionTalk) → map (let_go s s) talks ≡ talks
none_let_go s talks = ap (λ (closed : List ℕ). map (without_ended closed) talks) (none_closed s.sessions) ∙ none_ended talks

pub stop_leaves : StopsLeaveAll
stop_leaves given w (events.Ask ms fabric node cats opcode payload) stops = absurd (contradiction (sym stops))
stop_leaves given w (events.Datagram ms from bytes) stops = absurd (contradiction (sym stops))
stop_leaves given w (events.Tick ms) stops = absurd (contradiction (sym stops))
stop_leaves given w (events.Report ms fabric subscription) stops = absurd (contradiction (sym stops))
stop_leaves given w (events.Resend ms session) stops = absurd (contradiction (sym stops))
stop_leaves given w (events.Stop calls fate) stops = λ i. record { state = w.state; ledger = w.ledger; talks = none_let_go w.state.node w.talks i }
