use Rattle.std.proofs.Common.{◌≡◌, ℕ, ◌-◌, ◌*◌, ◌%◌, ◌^◌, ◌≤◌, ◌<◌, Option, Some, None, SomeIff, ap, ◌∙◌, arith}
use Rattle.std.specs.Prelude.{unwrap_or}
use Rattle.std.specs.Int.{bit_at}
use Rattle.std.proofs.lemmas.Nat.Bits.{bit_at-zero}
use Rattle.mt_window.proofs.Marks.{bit_at-moved_low, bit_at-moved_high}
use Rattle.mt_window.proofs.window.moved.Goals as goal

module _ (marks rise : ℕ) where
  free_in : (word : Option ℕ) → SomeIff word (rise < 64) (marks * 2 ^ rise % 2 ^ 64) → (i : ℕ) → i < rise → i < 64 → bit_at (unwrap_or word 0) i ≡ 0
  free_in None far i below low = bit_at-zero i
  free_in (Some word) near i below low = ap (λ x. bit_at x i) near.1 ∙ bit_at-moved_low marks rise i below low

  kept_in : (word : Option ℕ) → SomeIff word (rise < 64) (marks * 2 ^ rise % 2 ^ 64) → (i : ℕ) → rise ≤ i → i < 64 → bit_at (unwrap_or word 0) i ≡ bit_at marks (i - rise)
  kept_in None far i from low = absurd (far (omega arith))
  kept_in (Some word) near i from low = ap (λ x. bit_at x i) near.1 ∙ bit_at-moved_high marks rise i from low

pub returns-clause-free : goal.returns-clause-free
returns-clause-free c i below low =
    ap (λ x. bit_at x i) c.unwrap_or.ensures ∙ free_in c.args.marks c.args.rise c.checked_shl.result c.checked_shl.ensures i below low

pub returns-clause-kept : goal.returns-clause-kept
returns-clause-kept c i from low =
    ap (λ x. bit_at x i) c.unwrap_or.ensures ∙ kept_in c.args.marks c.args.rise c.checked_shl.result c.checked_shl.ensures i from low
