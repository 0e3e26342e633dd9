use Rattle.std.proofs.Common.{Ok, sym, ap, ◌∙◌}
use Rattle.mt_tlv.specs.View.{elements}
use Rattle.mt_tlv.proofs.Outlines.{other_kind, outlines_of_structure, outlines_of_other}
use Rattle.mt_tlv.proofs.outline.read_outlines.Goals as goal

pub returns-then-head-eq-STRUCTURE : goal.returns-then-head-eq-STRUCTURE
returns-then-head-eq-STRUCTURE c =
    let h = c.in_ok-head in
    record { exact = rw (outlines_of_structure c.args.bytes.now h.head.element_type h.head.tag h.rest.now h.ensures.gives c.if-head-eq-STRUCTURE.true) c.fields.ensures }

pub returns : goal.returns
returns c =
    let h = c.in_ok-head in
    record { exact = outlines_of_other c.args.bytes.now h.head.element_type h.head.tag h.rest.now c.in_ok-test_body.field-0.now h.ensures.gives (other_kind h.head.element_type c.if-head-eq-STRUCTURE.false) c.in_ok-test_body.ensures.gives ∙ ap Ok (sym (c.from_vec.ensures ∙ ap elements c.new.ensures.items)) }
