use Rattle.std.proofs.Common.{ap, ◌∙◌, List, ℕ}
use Rattle.mt_ccm.specs.Aes.{cipher, xored}
use Rattle.mt_ccm.specs.Steps.{filled}
use Rattle.mt_ccm.proofs.passing.chained_rest.Goals as goal

pub returns : goal.returns
returns c = λ key held.
    c.enciphered_words.ensures key held
    ∙ ap (cipher key) (c.load.ensures ∙ c.added.ensures ∙ ap (λ (y : List ℕ). xored y (filled c.args.rest.now)) c.store.ensures)
