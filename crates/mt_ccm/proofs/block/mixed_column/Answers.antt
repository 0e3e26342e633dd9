use Rattle.std.proofs.Common.{◌∙◌, ap, bit_xor, List, ℕ}
use Rattle.mt_ccm.specs.Aes.{xored}
use Rattle.mt_ccm.specs.Words.{word_bytes}
use Rattle.mt_ccm.proofs.WordFacts.{word_bytes-xor}
use Rattle.mt_ccm.proofs.block.mixed_column.Goals as goal

pub returns : goal.returns
returns c =
    let a = c.mixed_first.result in
    let b = c.mixed_second.result in
    let d = c.mixed_third.result in
    let e = c.mixed_fourth.result in
    word_bytes-xor (bit_xor (bit_xor (bit_xor a b) d) e) c.args.key
    ∙ ap (λ (w : List ℕ). xored w (word_bytes c.args.key))
    (word_bytes-xor (bit_xor (bit_xor a b) d) e
    ∙ (λ i. xored ((word_bytes-xor (bit_xor a b) d
    ∙ (λ j. xored ((word_bytes-xor a b ∙ (λ k. xored (c.mixed_first.ensures k) (c.mixed_second.ensures k))) j) (c.mixed_third.ensures j))) i) (c.mixed_fourth.ensures i)))
