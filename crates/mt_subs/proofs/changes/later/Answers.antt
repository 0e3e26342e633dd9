use Rattle.std.proofs.Common.{◌≤◌, ◌<◌, ◌∙◌, List, arith, take, length, get_or}
use Rattle.mt_model.specs.declared.node.state.ChangeNumber.{ChangeNumber}
use Rattle.mt_subs.specs.Changes.{is_later, later}
use Rattle.mt_subs.proofs.Lists.{front, whole}
use Rattle.mt_subs.proofs.Noting.{nothing, stops_at}
use Rattle.mt_subs.proofs.changes.later.Goals as goal

pub returns-then-change-number : goal.returns-then-change-number
returns-then-change-number c =
    let n = c.args.number in
    let i = c.loop-count.count in
    let items = c.args.changes.now in
    let lt : i < length items = c.loop-count-test.true in
    let low : (get_or items i nothing).number ≤ n = c.if-change-number.true in
    front (is_later n) items i c.loop-count.invariant (omega (arith, lt)) (stops_at n items i nothing c.requires.newest_first lt low)

pub returns : goal.returns
returns c =
    let n = c.args.number in
    let items = c.args.changes.now in
    let long : length items ≤ c.loop-count.count = c.loop-count-test.false in
    whole (is_later n) items (λ k d lt. c.loop-count.invariant k d (omega (arith, lt, long)))
