use Rattle.std.proofs.Common.{◌≡◌, ◌≤◌, ℕ, length, take, ap, sym, subst, ◌∙◌, arith}
use Rattle.std.proofs.lemmas.Grind.{common_steps}
use Rattle.mt_durable.specs.Changes.{change_bytes}
use Rattle.mt_durable.specs.Images.{IsImage}
use Rattle.mt_durable.specs.Reading.{Says, said}
use Rattle.mt_store.proofs.Leads.{image_said, said_is}
use Rattle.mt_store.proofs.image.Image.of_map.Goals as goal

pub invariant_of-result : goal.invariant_of-result
invariant_of-result c =
    let map = c.args.map.now in
    let made : c.write_image.new.out.items ≡ change_bytes map = grind (arith, common_steps) in
    let short : length (change_bytes map) ≤ 65535 = omega (arith, ap length made) in
    let says : Says map (change_bytes map) = c.maps_have_images.ensures.image map c.in_ok-write_image.ensures.ascend c.requires short in
    let count : c.len-count.result ≡ length c.write_image.new.out.items = grind (arith, common_steps) in
    let front : take c.len-count.result c.in_ok-bytes.bytes.items ≡ change_bytes map = ap (λ (n : ℕ). take n c.in_ok-bytes.bytes.items) count ∙ c.in_ok-bytes.ensures.front ∙ made in (
      subst IsImage (sym front) (image_said c.bytes_of_a_change_are_read.ensures.read map (change_bytes map) says c.in_ok-write_image.ensures.whole),
      c.in_ok-bytes.ensures.filled,
      omega arith,
    )

pub returns-clause-value : goal.returns-clause-value
returns-clause-value c =
    let map = c.args.map.now in
    let made : c.write_image.new.out.items ≡ change_bytes map = grind (arith, common_steps) in
    let short : length (change_bytes map) ≤ 65535 = omega (arith, ap length made) in
    let says : Says map (change_bytes map) = c.maps_have_images.ensures.image map c.in_ok-write_image.ensures.ascend c.requires short in
    let count : c.len-count.result ≡ length c.write_image.new.out.items = grind (arith, common_steps) in
    let front : take c.len-count.result c.in_ok-bytes.bytes.items ≡ change_bytes map = ap (λ (n : ℕ). take n c.in_ok-bytes.bytes.items) count ∙ c.in_ok-bytes.ensures.front ∙ made in
    ap said front ∙ said_is c.bytes_of_a_change_are_read.ensures.read map (change_bytes map) says
