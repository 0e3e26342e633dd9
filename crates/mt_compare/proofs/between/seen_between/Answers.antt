use Rattle.mt_compare.proofs.Parting.{found_part}
use Rattle.mt_compare.proofs.between.seen_between.Goals as goal

pub returns : goal.returns
returns c =
    let law = c.parts_come_in_order.ensures in
    let found = c.first_difference.ensures in
    found_part law.first law.marks c.args.mark.now c.args.other.now c.first_difference.result found.none found.differs found.first
