use Rattle.std.proofs.Common.{◌≡◌, ℕ, List, Ok, drop, subst, arith}
use Rattle.std.specs.Prelude.{Result}
use Rattle.std.proofs.lemmas.Grind.{common_steps}
use Rattle.mt_durable.specs.Reading.{change_at, change_in}
use Rattle.mt_durable.specs.Readings.{Gives}
use Rattle.mt_durable.specs.declared.durable.Entry.{Entry}
use Rattle.mt_durable.proofs.Said.{gives_element}
use Rattle.mt_tlv.specs.Reading.{element_at}
use Rattle.mt_tlv.specs.Tree.{Tree}
use Rattle.mt_tlv.specs.View.{tree}
use Rattle.mt_tlv.specs.declared.fault.TlvFault.{TlvFault}
use Rattle.mt_tlv.specs.declared.value.Tag.{Tag}
use Rattle.mt_durable.proofs.reading.change_of.Goals as goal

pub returns-clause-element : goal.returns-clause-element
returns-clause-element c =
    let bytes = c.args.bytes.now in
    let tag = c.in-Ok.element.0 in
    let t = tree c.in-Ok.element.1 in
    let count = c.in-Ok.element.2 in
    let is : element_at bytes ≡ Ok ((tag, t), drop count bytes) = c.in-Ok.ensures.exact in
    let exact : Gives (λ (x : List Entry). x) c.ascending.result (change_at bytes) = grind (arith, common_steps) in
    gives_element bytes tag t count c.ascending.result c.in-Ok.ensures.found.1
    (subst (λ (r : Result ((Tag × Tree) × List ℕ) TlvFault). Gives (λ (x : List Entry). x) c.ascending.result (change_in bytes r)) is exact)
