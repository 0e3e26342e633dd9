use Rattle.std.proofs.Common.{ap, ◌∙◌}
use Rattle.mt_tlv.specs.Parts.{next_at}
use Rattle.mt_tlv.specs.declared.value.Tag.TheVariants.{Context}
use Rattle.mt_durable.proofs.KeyParts.{over_entry}
use Rattle.mt_durable.proofs.image.first_key.Goals as goal

pub returns : goal.returns
returns c = λ entry rest element is.
    (let over = over_entry c.cursor_comes_over_the_element.ensures.parts entry c.args.bytes.now rest c.new-cursor.result element is c.new-cursor.ensures in
    let inside = c.pass.ensures over.front over.inside over.enters in
    let key = c.next_octets.ensures (Context 0) entry.key over.next (ap next_at inside ∙ over.key) in
    key.0)
