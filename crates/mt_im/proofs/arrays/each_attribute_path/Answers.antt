use Rattle.std.proofs.Common.{◌≡◌, ◌∙◌, sym, ap, Some, None}
use Rattle.mt_tlv.specs.View.{tree}
use Rattle.mt_im.specs.Blocks.{attribute_path_in}
use Rattle.mt_im.specs.Reading.{form}
use Rattle.mt_im.proofs.BlockLists.{blocks_next, blocks_bad, blocks_end}
use Rattle.mt_im.proofs.arrays.each_attribute_path.Goals as goal

pub returns-in_default : goal.returns-in_default
returns-in_default c = λ _.
    let bad : attribute_path_in (tree c.block-item.result.1) ≡ None = sym c.attribute_path.ensures ∙ c.in_default.is in
    ap (form c.args.number) (blocks_bad attribute_path_in c.loop-block.paths c.args.blocks.now c.loop-block.block-index c.block-item.result _ c.loop-block-test.true c.block-item.is bad c.loop-block.invariant)

pub loop-block-preserved : goal.loop-block-preserved
loop-block-preserved c =
    let found : attribute_path_in (tree c.block-item.result.1) ≡ Some c.in-Some.path = sym c.attribute_path.ensures ∙ c.in-Some.is in
    rw c.in_ok-push.ensures.ok (blocks_next attribute_path_in c.loop-block.paths c.args.blocks.now c.loop-block.block-index c.block-item.result c.in-Some.path _ c.loop-block-test.true c.block-item.is found c.loop-block.invariant)

pub returns : goal.returns
returns c = ap (form c.args.number) (blocks_end attribute_path_in c.loop-block.paths c.args.blocks.now c.loop-block.block-index _ c.loop-block-test.false c.loop-block.invariant)
