-- A counter is left for each step, or the first that has none is told.
use Rattle.std.proofs.Common.{◌≡◌, ◌+◌, ◌-◌, Some, ap, sym, ◌∙◌, arith}
use Rattle.mt_ctl.proofs.Askings.{enough_left, not_enough_left}
use Rattle.mt_ctl.proofs.asking.exhausted_line.Goals as goal

pub returns-then-len-left-clause-line : goal.returns-then-len-left-clause-line
returns-then-len-left-clause-line c = sym (enough_left c.args.steps.now 2 c.args.row.now.counter_in (omega arith))

pub returns-clause-line : goal.returns-clause-line
returns-clause-line c =
    let same : 4294967295 - c.args.row.now.counter_in + 2 ≡ 2 + (4294967295 - c.args.row.now.counter_in) = omega arith in
    ap Some same ∙ sym (not_enough_left c.args.steps.now 2 c.args.row.now.counter_in (omega arith) (omega arith))
