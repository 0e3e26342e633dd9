use Rattle.std.proofs.Common.{sym, ◌∙◌}
use Rattle.mt_compare.proofs.Parting.{reopened_alike, reopened_other}
use Rattle.mt_compare.proofs.between.reopened_between.Goals as goal

pub returns-then-not-is_same : goal.returns-then-not-is_same
returns-then-not-is_same c =
    reopened_other c.parts_come_in_order.ensures.marks c.args.mark.now c.args.other.now c.args.left.now c.args.left_too.now
    (λ same. let clash = sym c.if-not-is_same.true ∙ c.is_same.ensures.1 same in absurd (cc))

pub returns : goal.returns
returns c =
    c.seen_between.ensures
    ∙ reopened_alike c.parts_come_in_order.ensures.marks c.args.mark.now c.args.other.now c.args.left.now c.args.left_too.now (c.is_same.ensures.0 c.if-not-is_same.false)
