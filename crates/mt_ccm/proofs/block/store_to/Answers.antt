use Rattle.std.proofs.Common.{ℕ, ◌+◌, List, ◌++◌, sym, ◌∙◌, arith}
use Rattle.mt_ccm.proofs.WordFacts.{four_before, sixteen_is}
use Rattle.mt_ccm.proofs.block.store_to.Goals as goal

pub returns-clause-written : goal.returns-clause-written
returns-clause-written c =
    let at : ℕ = c.args.at in
    let one : List ℕ = c.store_word.new.bytes in
    let two : List ℕ = c.store_word-2.new.bytes in
    let three : List ℕ = c.store_word-3.new.bytes in
    let four : List ℕ = c.store_word-4.new.bytes in
    let first =
    four_before three four at (at + 12) c.store_word-4.ensures.before (omega arith)
    ∙ four_before two three at (at + 8) c.store_word-3.ensures.before (omega arith)
    ∙ four_before one two at (at + 4) c.store_word-2.ensures.before (omega arith) ∙ c.store_word.ensures.written in
    let second =
    four_before three four (at + 4) (at + 12) c.store_word-4.ensures.before (omega arith)
    ∙ four_before two three (at + 4) (at + 8) c.store_word-3.ensures.before (omega arith) ∙ c.store_word-2.ensures.written in
    let third = four_before three four (at + 8) (at + 12) c.store_word-4.ensures.before (omega arith) ∙ c.store_word-3.ensures.written in
    sym (sixteen_is four at (omega arith)) ∙ (λ i. first i ++ second i ++ third i ++ c.store_word-4.ensures.written i)
