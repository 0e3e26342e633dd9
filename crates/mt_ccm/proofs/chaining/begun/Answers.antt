use Rattle.std.proofs.Common.{◌∷◌, ◌++◌, ap, sym, ◌∙◌, List, ℕ}
use Rattle.std.specs.Int.{w16, to_be_bytes}
use Rattle.mt_ccm.specs.Aes.{cipher}
use Rattle.mt_ccm.specs.Ccm.{first_block}
use Rattle.mt_ccm.specs.Steps.{chained_aad}
use Rattle.mt_ccm.proofs.chaining.begun.Goals as goal

pub returns : goal.returns
unfolding first_block
returns c = λ key held plain size.
    let aad : List ℕ = c.args.aad.now in
    let nonce : List ℕ = c.args.nonce.now in
    let first = c.block_of-first.ensures ∙ (λ i. c.flags_of.ensures i ∷ (nonce ++ to_be_bytes w16 (sym size i))) in
    c.with_aad.ensures key held ∙ ap (λ (y : List ℕ). chained_aad key y aad) (c.enciphered.ensures key held ∙ ap (cipher key) first)
