use Rattle.std.proofs.Common.{arith}
use Rattle.std.proofs.lemmas.Result.{err_from_is_err_and}
use Rattle.mt_tlv.specs.View.{tree}
use Rattle.mt_tlv.proofs.Elements.{stands, is_read, no_fault}
use Rattle.mt_tlv.proofs.reading.read.Goals as goal

pub returns-in_err-tag-clause-only : goal.returns-in_err-tag-clause-only
returns-in_err-tag-clause-only c =
    let p = err_from_is_err_and c.from_residual.result c.from_residual.ensures.1 in
    rw (p.1, p.2) (λ tag v len le h. no_fault c.in_err-tag.field-0.0 c.args.bytes.now tag v len c.in_err-tag.ensures.gives h)

pub returns-clause-found : goal.returns-clause-found
returns-clause-found c =
    let s = stands c.args.bytes.now c.in_ok-tag.tag (tree c.in_ok-tag.value) c.in_ok-tag.rest.now (λ i. omega (arith, c.type_inv.bytes i)) c.in_ok-tag.ensures.gives in
    (s.within, s.element)

pub returns-clause-only : goal.returns-clause-only
returns-clause-only c = λ tag v len le h. is_read c.args.bytes.now c.in_ok-tag.tag (tree c.in_ok-tag.value) c.in_ok-tag.rest.now tag v len c.in_ok-tag.ensures.gives le h

pub returns-clause-exact : goal.returns-clause-exact
returns-clause-exact c =
    let s = stands c.args.bytes.now c.in_ok-tag.tag (tree c.in_ok-tag.value) c.in_ok-tag.rest.now (λ i. omega (arith, c.type_inv.bytes i)) c.in_ok-tag.ensures.gives in
    rw s.after c.in_ok-tag.ensures.gives
