use Rattle.std.proofs.Common.{◌≡◌, true, false, Ok, sym, ap, ◌∙◌}
use Rattle.mt_tlv.specs.Tree.{Tree}
use Rattle.mt_tlv.specs.View.{tree}
use Rattle.mt_tlv.specs.Reading.{body_at, container_at, is_scalar_type, scalar_at}
use Rattle.mt_tlv.specs.Outline.{outlined}
use Rattle.mt_tlv.proofs.Outlines.{there_is, emptied_is, exactly_gives, outlined_scalar}
use Rattle.mt_tlv.proofs.outline.outlined_body.Goals as goal

pub returns-then-is_scalar-clause-gives : goal.returns-then-is_scalar-clause-gives
returns-then-is_scalar-clause-gives c =
    let whole = c.args.whole in
    let yes : is_scalar_type c.args.element_type ≡ true = sym c.is_scalar.ensures ∙ c.if-is_scalar.true in
    rw (outlined_scalar (container_at 15 whole) whole c.args.element_type c.args.bytes.now yes) (exactly_gives (λ x. (tree x.0, x.1.now)) c.read_scalar.result (scalar_at whole c.args.element_type c.args.bytes.now) c.read_scalar.ensures.gives)

pub returns-clause-gives : goal.returns-clause-gives
returns-clause-gives c =
    let whole = c.args.whole in
    let type = c.args.element_type in
    let rest = c.in_ok-rest.rest.now in
    let other : is_scalar_type type ≡ false = sym c.is_scalar.ensures ∙ c.if-is_scalar.false in
    let v = there_is (body_at 15 whole type c.args.bytes.now) rest c.in_ok-rest.ensures.gives in
    ap outlined v.1 ∙ ap (λ (w : Tree). Ok (w, rest)) (emptied_is (container_at 15 whole) whole type c.args.bytes.now v.0 rest other v.1 ∙ sym c.empty_value.ensures)
