use Rattle.std.proofs.Common.{sym, ◌∙◌}
use Rattle.mt_play.specs.mt_runs.Isolation.{own_part}
use Rattle.mt_compare.proofs.Parting.{born_other}
use Rattle.mt_compare.proofs.between.born_between.Goals as goal

pub returns-then-branch : goal.returns-then-branch
returns-then-branch c given sessions g h is its =
    let law = c.parts_come_in_order.ensures.own (own_part c.args.fabric g.whole) (own_part c.args.fabric h.whole) in
    sym (law.1 ((c.in_ok-has_same_own.ensures given given sessions sessions g h is its).0 c.if-branch.true))

pub returns : goal.returns
returns c given sessions g h is its =
    born_other c.parts_come_in_order.ensures.own (own_part c.args.fabric g.whole) (own_part c.args.fabric h.whole)
    (λ same. let clash = sym c.if-branch.false ∙ (c.in_ok-has_same_own.ensures given given sessions sessions g h is its).1 same in absurd (cc))
