use Rattle.std.proofs.Common.{◌≡◌, ◌∙◌, sym, Some, None}
use Rattle.mt_tlv.specs.View.{tree}
use Rattle.mt_im.specs.Blocks.{event_filter_in}
use Rattle.mt_im.proofs.BlockLists.{least_next, least_bad, least_end, minimum_bad, minimum_found}
use Rattle.mt_im.proofs.arrays.greatest_minimum.Goals as goal

pub returns-in_default : goal.returns-in_default
returns-in_default c =
    let bad : event_filter_in (tree c.block-item.result.1) ≡ None = sym c.event_filter.ensures ∙ c.in_default.is in
    sym (minimum_bad c.args.number _ (least_bad event_filter_in c.loop-block.greatest c.args.blocks.now c.loop-block.block-index c.block-item.result _ c.loop-block-test.true c.block-item.is bad c.loop-block.invariant))

pub returns : goal.returns
returns c = sym (minimum_found c.args.number _ _ (least_end event_filter_in c.loop-block.greatest c.args.blocks.now c.loop-block.block-index _ c.loop-block-test.false c.loop-block.invariant))

pub loop-block-preserved : goal.loop-block-preserved
loop-block-preserved c =
    let found : event_filter_in (tree c.block-item.result.1) ≡ Some c.in-Some.minimum = sym c.event_filter.ensures ∙ c.in-Some.is in
    rw c.max-greatest.ensures (least_next event_filter_in c.loop-block.greatest c.args.blocks.now c.loop-block.block-index c.block-item.result c.in-Some.minimum _ c.loop-block-test.true c.block-item.is found c.loop-block.invariant)
