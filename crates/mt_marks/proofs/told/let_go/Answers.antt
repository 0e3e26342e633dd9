use Rattle.std.proofs.Common.{◌∙◌, ℕ, ◌<◌, add-one, ap, arith, length, set}
use Rattle.mt_marks.proofs.Edited.{all_let_go, let_go_from, one_more}
use Rattle.mt_marks.proofs.told.let_go.Goals as goal

pub loop-told-preserved : goal.loop-told-preserved
loop-told-preserved c =
    let closed = c.args.closed.now in
    let i = c.loop-told.told-index in
    let talks = c.loop-told.talks in
    let new = c.let_go_if_ended.new.told in
    let within : i < length talks = omega (arith, c.loop-told-test.true, c.loop-told.auto.talks) in
    ap (λ (n : ℕ). let_go_from closed n (set talks i new)) (add-one i) ∙ one_more closed i talks c.told-item.result new within c.in_ok-let_go_if_ended.ensures ∙ c.loop-told.invariant

pub returns : goal.returns
returns c =
    all_let_go c.args.closed.now c.loop-told.told-index c.loop-told.talks (omega (arith, c.loop-told-test.false, c.loop-told.auto.talks, c.loop-told.auto.told-index-end))
    ∙ c.loop-told.invariant
