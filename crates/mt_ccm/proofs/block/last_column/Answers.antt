use Rattle.std.proofs.Common.{◌∙◌, ap, rules, List, ℕ, ◌∷◌, []}
use Rattle.mt_ccm.specs.Aes.{xored}
use Rattle.mt_ccm.specs.Words.{word_bytes}
use Rattle.mt_ccm.proofs.WordFacts.{word_bytes-xor, word_bytes-from_be_bytes}
use Rattle.mt_ccm.proofs.block.last_column.Goals as goal

pub returns : goal.returns
returns c =
    word_bytes-xor c.from_be_bytes.result c.args.key
    ∙ ap (λ (w : List ℕ). xored w (word_bytes c.args.key))
    (word_bytes-from_be_bytes c.substituted.result c.substituted-2.result c.substituted-3.result c.substituted-4.result c.from_be_bytes.result
    (search rules) (search rules) (search rules) (search rules) c.from_be_bytes.ensures
    ∙ (λ i. c.substituted.ensures i ∷ c.substituted-2.ensures i ∷ c.substituted-3.ensures i ∷ c.substituted-4.ensures i ∷ []))
