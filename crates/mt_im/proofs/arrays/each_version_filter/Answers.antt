use Rattle.std.proofs.Common.{◌≡◌, ◌∙◌, sym, ap, Some, None}
use Rattle.mt_tlv.specs.View.{tree}
use Rattle.mt_im.specs.Blocks.{version_filter_in}
use Rattle.mt_im.specs.Reading.{form}
use Rattle.mt_im.proofs.BlockLists.{blocks_next, blocks_bad, blocks_end}
use Rattle.mt_im.proofs.arrays.each_version_filter.Goals as goal

pub returns-in_default : goal.returns-in_default
returns-in_default c = λ _.
    let bad : version_filter_in (tree c.block-item.result.1) ≡ None = sym c.version_filter.ensures ∙ c.in_default.is in
    ap (form c.args.number) (blocks_bad version_filter_in c.loop-block.versions c.args.blocks.now c.loop-block.block-index c.block-item.result _ c.loop-block-test.true c.block-item.is bad c.loop-block.invariant)

pub loop-block-preserved : goal.loop-block-preserved
loop-block-preserved c =
    let found : version_filter_in (tree c.block-item.result.1) ≡ Some c.in-Some.known = sym c.version_filter.ensures ∙ c.in-Some.is in
    rw c.in_ok-push.ensures.ok (blocks_next version_filter_in c.loop-block.versions c.args.blocks.now c.loop-block.block-index c.block-item.result c.in-Some.known _ c.loop-block-test.true c.block-item.is found c.loop-block.invariant)

pub returns : goal.returns
returns c = ap (form c.args.number) (blocks_end version_filter_in c.loop-block.versions c.args.blocks.now c.loop-block.block-index _ c.loop-block-test.false c.loop-block.invariant)
