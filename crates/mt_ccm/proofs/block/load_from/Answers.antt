use Rattle.std.proofs.Common.{◌++◌, ◌∙◌}
use Rattle.mt_ccm.proofs.WordFacts.{sixteen_is}
use Rattle.mt_ccm.proofs.block.load_from.Goals as goal

pub returns : goal.returns
returns c =
    (λ i. c.load_word.ensures i ++ c.load_word-2.ensures i ++ c.load_word-3.ensures i ++ c.load_word-4.ensures i)
    ∙ sixteen_is c.args.bytes.now c.args.at c.requires
