-- Whether the fabric sees an event, as its mark tells.
use Rattle.std.proofs.Common.{◌≡◌, ℕ, inl, inr, Bool, true, false, Option, Some, None, sym, ap, ◌∙◌, if◌then◌else◌}
use Rattle.std.proofs.lemmas.Bool.{cases_Bool}
use Rattle.std.specs.Option.{option_map}
use Rattle.mt_model.specs.declared.texts.recording.Event.{Event}
use Rattle.mt_play.specs.mt_runs.Isolation.{public_part}
use Rattle.mt_play.specs.mt_runs.Whole.{Whole}
use Rattle.mt_play.specs.mt_runs.Marks.{Mark, is_seen, seen}
use Rattle.mt_play.specs.mt_marks.Seen.{seen_in}
use Rattle.mt_play.specs.mt_marks.Mark as code
use Rattle.mt_play.specs.mt_whole.Seeing.{mark_of}

some_same : (m n : Mark) → Some m ≡ Some n → m ≡ n
some_same m n e = cc

pub is_marked : (fabric : ℕ) (w : Whole) (event : Event) (found : Option code.Mark) (mark : code.Mark) → found ≡ Some mark → option_map seen_in found ≡ mark_of fabric w event
    → (is_seen fabric w event ≡ true) × (seen_in mark ≡ seen event (public_part fabric w))
is_marked fabric w event found mark is told =
    let some : Some (seen_in mark) ≡ mark_of fabric w event = sym (ap (option_map seen_in) is) ∙ told in
    let by : (b : Bool) → is_seen fabric w event ≡ b → mark_of fabric w event ≡ (if b then Some (seen event (public_part fabric w)) else None) =
    λ b same. ap (λ t. if t then Some (seen event (public_part fabric w)) else None) same in
    elim (cases_Bool (is_seen fabric w event)) [
      | inl sees ↦ (sees, some_same (seen_in mark) (seen event (public_part fabric w)) (some ∙ by true sees))
      | inr passes ↦ absurd (let clash : Some (seen_in mark) ≡ None = some ∙ by false passes in cc)
    ]

pub is_unmarked : (fabric : ℕ) (w : Whole) (event : Event) (found : Option code.Mark) → found ≡ None → option_map seen_in found ≡ mark_of fabric w event → is_seen fabric w event ≡ false
is_unmarked fabric w event found is told =
    let none : None ≡ mark_of fabric w event = sym (ap (option_map seen_in) is) ∙ told in
    let by : (b : Bool) → is_seen fabric w event ≡ b → mark_of fabric w event ≡ (if b then Some (seen event (public_part fabric w)) else None) =
    λ b same. ap (λ t. if t then Some (seen event (public_part fabric w)) else None) same in
    elim (cases_Bool (is_seen fabric w event)) [
      | inl sees ↦ absurd (let clash : None ≡ Some (seen event (public_part fabric w)) = none ∙ by true sees in cc)
      | inr passes ↦ passes
    ]
