use Rattle.std.proofs.Common.{◌≡◌, ℕ, List, ap, ◌∙◌}
use Rattle.mt_ccm.specs.Aes.{cipher, xored}
use Rattle.mt_ccm.specs.Ccm.{counter_block}
use Rattle.mt_ccm.specs.Steps.{filled}
use Rattle.std.specs.Prelude.{length}
use Rattle.mt_ccm.proofs.ChainFacts.{filled_whole}
use Rattle.mt_ccm.proofs.MaskFacts.{length-cipher}
use Rattle.mt_ccm.proofs.chaining.masked_tag_of.Goals as goal

pub returns : goal.returns
returns c = λ key held.
    let nonce : List ℕ = c.args.nonce.now in
    let mask : c.enciphered-mask.result ≡ cipher key (counter_block nonce 0) =
    c.enciphered-mask.ensures key held ∙ ap (cipher key) c.counter.ensures in
    let whole : filled c.enciphered-mask.result ≡ c.enciphered-mask.result =
    filled_whole c.enciphered-mask.result (ap length mask ∙ length-cipher key (counter_block nonce 0)) in
    c.added.ensures ∙ ap (xored c.args.tag.now) (whole ∙ mask)
