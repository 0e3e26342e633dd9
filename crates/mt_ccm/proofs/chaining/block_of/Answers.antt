use Rattle.std.proofs.Common.{◌∷◌, ◌++◌, [], sym, rules, slice_index}
use Rattle.mt_ccm.proofs.WordFacts.{thirteen}
use Rattle.mt_ccm.proofs.chaining.block_of.Goals as goal

pub returns : goal.returns
returns c =
    (λ i. c.args.flags ∷ (sym (thirteen c.args.nonce.now (search rules)) i
    ++ slice_index (c.to_be_bytes.ensures i) 0 ∷ slice_index (c.to_be_bytes.ensures i) 1 ∷ []))
