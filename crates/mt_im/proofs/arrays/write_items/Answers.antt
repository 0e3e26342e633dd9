use Rattle.std.proofs.Common.{◌≡◌, ◌∙◌, sym, ap, Some, None, ◌<◌, ◌≤◌, ◌+◌, length, arith}
use Rattle.std.proofs.lemmas.List.{drop-set-lt}
use Rattle.mt_tlv.specs.declared.value.Tag.{Tag}
use Rattle.mt_tlv.specs.declared.value.Value.{Value}
use Rattle.mt_tlv.specs.View.{tree}
use Rattle.mt_im.specs.Blocks.{write_item_in}
use Rattle.mt_im.specs.Reading.{form}
use Rattle.mt_im.proofs.BlockLists.{blocks_next, blocks_bad, blocks_end}
use Rattle.mt_im.proofs.arrays.write_items.Goals as goal

pub returns-in_default : goal.returns-in_default
returns-in_default c = λ _.
    let bad : write_item_in (tree c.block-item.result.1) ≡ None =
    ap (λ (m : Tag × Value). write_item_in (tree m.1)) c.block-item.is ∙ ap (λ v. write_item_in (tree v)) (sym c.replace-value.ensures.value) ∙ sym c.write_item.ensures ∙ c.in_default.is in
    let here : c.loop-block.block-index < length c.loop-block.blocks = omega arith in
    ap (form c.args.number) (blocks_bad write_item_in c.loop-block.items c.loop-block.blocks c.loop-block.block-index c.block-item.result _ here c.block-item.is bad c.loop-block.invariant)

pub loop-block-preserved : goal.loop-block-preserved
loop-block-preserved c =
    let found : write_item_in (tree c.block-item.result.1) ≡ Some c.in-Some.item =
    ap (λ (m : Tag × Value). write_item_in (tree m.1)) c.block-item.is ∙ ap (λ v. write_item_in (tree v)) (sym c.replace-value.ensures.value) ∙ sym c.write_item.ensures ∙ c.in-Some.is in
    let here : c.loop-block.block-index < length c.loop-block.blocks = omega arith in
    let beyond : c.loop-block.block-index < c.loop-block.block-index + 1 = omega arith in
    rw (c.in_ok-push.ensures.ok, drop-set-lt) (blocks_next write_item_in c.loop-block.items c.loop-block.blocks c.loop-block.block-index c.block-item.result c.in-Some.item _ here c.block-item.is found c.loop-block.invariant)

pub returns : goal.returns
returns c =
    let beyond : length c.loop-block.blocks ≤ c.loop-block.block-index = omega arith in
    ap (form c.args.number) (blocks_end write_item_in c.loop-block.items c.loop-block.blocks c.loop-block.block-index _ beyond c.loop-block.invariant)
