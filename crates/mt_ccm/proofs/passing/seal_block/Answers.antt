use Rattle.std.proofs.Common.{ap, ◌∙◌}
use Rattle.mt_ccm.specs.Aes.{cipher, xored}
use Rattle.mt_ccm.specs.Words.{block_at}
use Rattle.mt_ccm.proofs.passing.seal_block.Goals as goal

pub returns-clause-chained : goal.returns-clause-chained
returns-clause-chained c = λ key held.
    c.enciphered_words-next.ensures key held
    ∙ ap (cipher key) (c.sum.ensures ∙ ap (xored (block_at c.args.state 0)) c.load_from-plain.ensures)

pub returns-clause-masked : goal.returns-clause-masked
returns-clause-masked c = λ key held.
    let stream = c.enciphered_words-stream.ensures key held ∙ ap (cipher key) (c.load.ensures ∙ c.counter.ensures) in
    c.store_to.ensures.written ∙ c.sum-2.ensures ∙ (λ i. xored (c.load_from-plain.ensures i) (stream i))
