use Rattle.std.proofs.Common.{ℕ, List, [], ◌∷◌, length, slice_index, sym, ap, ◌∙◌, ◌/◌, ◌%◌}
use Rattle.mt_ccm.proofs.TagFacts.{fourteen}
use Rattle.mt_ccm.proofs.chaining.aad_head.Goals as goal

pub returns : goal.returns
returns c =
    let aad : List ℕ = c.args.aad.now in
    (λ i. slice_index (c.to_be_bytes.ensures i) 0 ∷ slice_index (c.to_be_bytes.ensures i) 1
    ∷ c.byte_or_zero.ensures i ∷ c.byte_or_zero-2.ensures i ∷ c.byte_or_zero-3.ensures i ∷ c.byte_or_zero-4.ensures i
    ∷ c.byte_or_zero-5.ensures i ∷ c.byte_or_zero-6.ensures i ∷ c.byte_or_zero-7.ensures i ∷ c.byte_or_zero-8.ensures i
    ∷ c.byte_or_zero-9.ensures i ∷ c.byte_or_zero-10.ensures i ∷ c.byte_or_zero-11.ensures i ∷ c.byte_or_zero-12.ensures i
    ∷ c.byte_or_zero-13.ensures i ∷ c.byte_or_zero-14.ensures i ∷ [])
    ∙ ap (λ (l : List ℕ). length aad / 256 % 256 ∷ length aad % 256 ∷ l) (sym (fourteen aad))
