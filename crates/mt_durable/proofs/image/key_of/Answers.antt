use Rattle.std.proofs.Common.{◌≡◌, not, ap, ◌∙◌, arith}
use Rattle.std.proofs.lemmas.Grind.{common_steps}
use Rattle.mt_tlv.specs.Parts.{next_at}
use Rattle.mt_tlv.specs.declared.value.Tag.TheVariants.{Context}
use Rattle.mt_durable.proofs.KeyParts.{over_entry}
use Rattle.mt_durable.proofs.image.key_of.Goals as goal

pub returns-in_err-key : goal.returns-in_err-key
returns-in_err-key c = λ entry rest element is.
    (let over = over_entry c.cursor_comes_over_the_element.ensures.parts entry c.args.bytes.now rest c.new-cursor.result element is c.new-cursor.ensures in
    let inside = c.pass.ensures over.front over.inside over.enters in
    let key = c.next_octets.ensures (Context 0) entry.key over.next (ap next_at inside ∙ over.key) in
    absurd (grind (arith, common_steps, key.0, c.in_err-key.was)))

pub returns : goal.returns
returns c = λ entry rest element is.
    (let over = over_entry c.cursor_comes_over_the_element.ensures.parts entry c.args.bytes.now rest c.new-cursor.result element is c.new-cursor.ensures in
    let inside = c.pass.ensures over.front over.inside over.enters in
    let key = c.next_octets.ensures (Context 0) entry.key over.next (ap next_at inside ∙ over.key) in
    let leave = c.is_next_leave.ensures over.behind_it.part over.behind_it.next (ap next_at key.1 ∙ over.behind_it.steps) in
    let same : c.in_ok-key.key.now ≡ entry.key = grind (arith, common_steps, key.0) in
    (same, ap not leave ∙ over.behind_it.leaves))
