use Rattle.std.proofs.Common.{refl, arith, length, ap}
use Rattle.mt_marks.proofs.Differing.{all_same, part_within}
use Rattle.mt_marks.proofs.difference.first_difference.Goals as goal

pub returns-clause-none : goal.returns-clause-none
returns-clause-none c = (λ none. all_same c.args.one.now c.args.other.now (λ part. c.loop-part.invariant part (omega (arith, part_within part, ap length c.all_parts-part-items.ensures))), λ same. refl)
