use Rattle.std.proofs.Common.{◌≡◌, ◌∙◌, sym, ap, Ok, Err}
use Rattle.mt_tlv.specs.View.{tree}
use Rattle.mt_write.specs.Items.{with_room}
use Rattle.mt_write.proofs.KeptEach.{kept_next, kept_bad, kept_end}
use Rattle.mt_write.proofs.items.keep_each.Goals as goal

pub returns-in-Err : goal.returns-in-Err
returns-in-Err g c =
    let keep = g.T.ListItem.kept_as c.args.fields.now c.args.fabric in
    let bad : with_room c.loop-item.left (keep (tree c.item-item.result.1)) ≡ Err c.in-Err.status = ap (with_room c.loop-item.left) (sym c.in_ok-keep.ensures) ∙ sym c.with_room.ensures ∙ c.in-Err.is in
    kept_bad keep c.loop-item.kept c.loop-item.left c.args.items.now c.loop-item.item-index c.item-item.result c.in-Err.status _ c.loop-item-test.true c.item-item.is bad c.loop-item.invariant

pub loop-item-preserved : goal.loop-item-preserved
loop-item-preserved g c =
    let keep = g.T.ListItem.kept_as c.args.fields.now c.args.fabric in
    let found : with_room c.loop-item.left (keep (tree c.item-item.result.1)) ≡ Ok c.in-Ok.one = ap (with_room c.loop-item.left) (sym c.in_ok-keep.ensures) ∙ sym c.with_room.ensures ∙ c.in-Ok.is in
    rw (c.in_ok-push-in-Ok.ensures.ok, c.saturating_sub-left.ensures) (kept_next keep c.loop-item.kept c.loop-item.left c.args.items.now c.loop-item.item-index c.item-item.result c.in-Ok.one _ c.loop-item-test.true c.item-item.is found c.loop-item.invariant)

pub returns : goal.returns
returns g c = kept_end (g.T.ListItem.kept_as c.args.fields.now c.args.fabric) c.loop-item.kept c.loop-item.left c.args.items.now c.loop-item.item-index _ c.loop-item-test.false c.loop-item.invariant
