use Rattle.std.proofs.Common.{arith}
use Rattle.std.proofs.lemmas.Grind.{common_steps}
use Rattle.mt_durable.specs.Fronts.{bytes_to_end}
use Rattle.mt_durable.proofs.Fronts.{HasFront, has_front, is_key}
use Rattle.mt_durable.proofs.image.key_in_front.Goals as goal

pub returns : goal.returns
returns c =
    let bytes = c.args.entries.now in
    let has : HasFront bytes = has_front c.bytes_of_a_change_are_read.ensures.read c.narrow_is_element.ensures bytes c.requires (λ e. grind (arith, common_steps, e)) in
    is_key c.bytes_of_a_change_are_read.ensures.read bytes has _ (c.first_key.ensures has.entry (bytes_to_end has.entries) has.known.element has.known.is)
