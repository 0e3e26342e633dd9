-- The first place of a byte.
use Rattle.std.proofs.Common.{◌≡◌, ℕ, Bool, true, false, cond, List, Option, Some, None, length, get_or, refl, sym, ap, ◌∙◌, arith}
use Rattle.std.specs.Prelude.{nat_lt}
use Rattle.std.specs.List.{position, position_or_len}
use Rattle.std.proofs.lemmas.Bool.{lt-ltb, le-ltb}
use Rattle.std.proofs.lemmas.List.Sums.{position_or_len_is}
use Rattle.memchr.specs.Find.{IsFirstByte}

fails : (b : Bool) → (b ≡ true → ⊥) → b ≡ false
fails true h = absurd (h refl)
fails false h = refl

pub first_is_position : (test : ℕ → Bool) (text : List ℕ) (found : Option ℕ) → IsFirstByte test text found → found ≡ position test text
first_is_position test text None nowhere =
    let at : position_or_len test text ≡ length text = position_or_len_is test text (length text) 0 (omega arith) (λ k h. fails (test (get_or text k 0)) (nowhere k (omega arith) h)) (λ h. absurd (omega arith)) in
    sym (ap (λ (p : ℕ). cond (nat_lt p (length text)) (Some p) None) at ∙ ap (λ (b : Bool). cond b (Some (length text)) None) (le-ltb (length text) (length text) (omega arith)))
first_is_position test text (Some i) first =
    let high = first.0.high in
    let at : position_or_len test text ≡ i = position_or_len_is test text i 0 (omega arith) (λ k h. fails (test (get_or text k 0)) (first.0.before k (omega arith) h)) (λ h. first.1) in
    sym (ap (λ (p : ℕ). cond (nat_lt p (length text)) (Some p) None) at ∙ ap (λ (b : Bool). cond b (Some i) None) (lt-ltb i (length text) high))
