use Rattle.std.proofs.Common.{◌≡◌, ℕ, List, ◌++◌, length, take, drop, ap, ◌∙◌, arith}
use Rattle.std.proofs.lemmas.Grind.{common_steps}
use Rattle.mt_durable.specs.Images.{image_after}
use Rattle.mt_store.proofs.Leads.{fits_in, image_said, merged_into, written_back}
use Rattle.mt_store.proofs.image.Image.follow.Goals as goal

pub merge-merged-requires-clause-from : goal.merge-merged-requires-clause-from
merge-merged-requires-clause-from g c = image_said c.bytes_of_a_change_are_read.ensures.read c.args.from.now c.as_slice-bytes.result.now c.as_slice-bytes.ensures.says c.as_slice-bytes.ensures.whole

pub merge-merged-requires-clause-room : goal.merge-merged-requires-clause-room
merge-merged-requires-clause-room g c =
    let fits = fits_in c.bytes_of_a_change_are_read.ensures.read c.changes_lead_on.ensures.merged c.args.change.now c.as_slice-bytes.result.now c.args.from.now c.requires.change c.as_slice-bytes.ensures.says c.as_slice-bytes.ensures.whole c.requires.room in
    omega (arith, fits, c.self.invariant.1)

pub invariant_of-self : goal.invariant_of-self
invariant_of-self g c =
    let read = c.bytes_of_a_change_are_read.ensures.read in
    let into = c.merge-merged.new.into in
    let old = c.self.inside.bytes.items in
    let size : length into ≡ length old = grind (arith, common_steps, c.merge-merged.auto.into) in
    let room : c.self.inside.bytes.len ≡ length into = grind (arith, common_steps, size) in
    let items = take c.self.inside.bytes.len (into ++ drop (length into) old) in
    let back : items ≡ into = written_back into old c.self.inside.bytes.len room (omega (arith, size)) in
    let made : take c.merge-merged.result items ≡ image_after c.args.change.now c.as_slice-bytes.result.now = ap (λ (l : List ℕ). take c.merge-merged.result l) back ∙ c.merge-merged.ensures.merged in
    let there = merged_into read c.changes_lead_on.ensures.merged c.maps_have_images.ensures.allowed c.maps_have_images.ensures.image
    c.args.change.now c.as_slice-bytes.result.now c.args.from.now items c.merge-merged.result c.requires.change c.as_slice-bytes.ensures.says c.as_slice-bytes.ensures.whole c.requires.room made c.merge-merged.ensures.count in
    (there.image, ap length back ∙ size ∙ c.self.invariant.1, there.short)

pub returns-clause-value : goal.returns-clause-value
returns-clause-value g c =
    let read = c.bytes_of_a_change_are_read.ensures.read in
    let into = c.merge-merged.new.into in
    let old = c.self.inside.bytes.items in
    let size : length into ≡ length old = grind (arith, common_steps, c.merge-merged.auto.into) in
    let room : c.self.inside.bytes.len ≡ length into = grind (arith, common_steps, size) in
    let items = take c.self.inside.bytes.len (into ++ drop (length into) old) in
    let back : items ≡ into = written_back into old c.self.inside.bytes.len room (omega (arith, size)) in
    let made : take c.merge-merged.result items ≡ image_after c.args.change.now c.as_slice-bytes.result.now = ap (λ (l : List ℕ). take c.merge-merged.result l) back ∙ c.merge-merged.ensures.merged in
    let there = merged_into read c.changes_lead_on.ensures.merged c.maps_have_images.ensures.allowed c.maps_have_images.ensures.image
    c.args.change.now c.as_slice-bytes.result.now c.args.from.now items c.merge-merged.result c.requires.change c.as_slice-bytes.ensures.says c.as_slice-bytes.ensures.whole c.requires.room made c.merge-merged.ensures.count in
    there.value

pub returns-clause-leads : goal.returns-clause-leads
returns-clause-leads g c =
    let read = c.bytes_of_a_change_are_read.ensures.read in
    let into = c.merge-merged.new.into in
    let old = c.self.inside.bytes.items in
    let size : length into ≡ length old = grind (arith, common_steps, c.merge-merged.auto.into) in
    let room : c.self.inside.bytes.len ≡ length into = grind (arith, common_steps, size) in
    let items = take c.self.inside.bytes.len (into ++ drop (length into) old) in
    let back : items ≡ into = written_back into old c.self.inside.bytes.len room (omega (arith, size)) in
    let made : take c.merge-merged.result items ≡ image_after c.args.change.now c.as_slice-bytes.result.now = ap (λ (l : List ℕ). take c.merge-merged.result l) back ∙ c.merge-merged.ensures.merged in
    let there = merged_into read c.changes_lead_on.ensures.merged c.maps_have_images.ensures.allowed c.maps_have_images.ensures.image
    c.args.change.now c.as_slice-bytes.result.now c.args.from.now items c.merge-merged.result c.requires.change c.as_slice-bytes.ensures.says c.as_slice-bytes.ensures.whole c.requires.room made c.merge-merged.ensures.count in
    there.leads
