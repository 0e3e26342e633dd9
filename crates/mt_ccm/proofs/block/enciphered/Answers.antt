use Rattle.std.proofs.Common.{◌∙◌, ap}
use Rattle.mt_ccm.specs.Aes.{cipher}
use Rattle.mt_ccm.proofs.block.enciphered.Goals as goal

pub returns : goal.returns
returns c = λ key held. c.store.ensures ∙ c.enciphered_words.ensures key held ∙ ap (cipher key) c.load.ensures
