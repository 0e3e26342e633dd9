use Rattle.std.proofs.Common.{◌≡◌, ℕ, List, length, take, ap, ◌∙◌, arith, rules}
use Rattle.std.proofs.lemmas.List.{length-take-le}
use Rattle.mt_ccm.specs.Steps.{chained_all}
use Rattle.mt_ccm.proofs.TagFacts.{masked_tag_is}
use Rattle.mt_ccm.proofs.passing.seal_text.Goals as goal

pub returns-clause-tag : goal.returns-clause-tag
returns-clause-tag c = λ key held.
    let nonce : List ℕ = c.args.nonce.now in
    let plain : List ℕ = take c.args.count c.args.bytes.now in
    let size : length plain ≡ c.args.count = length-take-le c.args.count c.args.bytes.now (omega arith) in
    masked_tag_is key nonce c.args.aad.now plain c.begun-begin.result c.store.result c.masked_tag_of.result (search rules)
    (c.begun-begin.ensures key held plain size)
    (c.store.ensures ∙ c.seal_all-last.ensures.chained key held ∙ ap (λ (y : List ℕ). chained_all key y plain) c.load.ensures)
    (c.masked_tag_of.ensures key held)
