use Rattle.std.proofs.Common.{◌<◌, arith}
use Rattle.mt_tlv.specs.Tree.{tree_size, elements_size}
use Rattle.mt_tlv.specs.View.{tree}
use Rattle.mt_model.proofs.Sizes.{all_counted, member_falls}
use Rattle.mt_model.proofs.messages.size.+size.Goals as goal

pub members_size-value_size-requires : goal.members_size-value_size-requires
members_size-value_size-requires t c =
    let members = c.args.members.now in
    let all = c.as_slice-all in
    let item = c.loop-tag-item in
    let smaller : tree_size (tree item.result.1) < elements_size members = member_falls all.result.now c.loop-tag.tag-index item.result members all.ensures c.loop-tag-test.true item.is in
    (omega arith, tt)

pub members_size-returns : goal.members_size-returns
members_size-returns t c =
    let all = c.as_slice-all in
    let l = c.loop-tag in
    all_counted all.result.now l.tag-index l.total c.args.members.now c.loop-tag-test.false l.invariant.fits all.ensures l.invariant.counted
