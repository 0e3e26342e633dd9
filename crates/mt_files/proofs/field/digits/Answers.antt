use Rattle.std.proofs.Common.{sym, ◌∙◌}
use Rattle.mt_files.proofs.Numbers.{up_to-passed}
use Rattle.mt_files.proofs.field.digits.Goals as goal

pub returns-then-next-most-clause-value : goal.returns-then-next-most-clause-value
returns-then-next-most-clause-value c =
    let l = c.loop-digit in
    sym (l.invariant.told ∙ up_to-passed c.args.most l.number l.digit-index c.args.text.now c.loop-digit-test.true c.if-digit-lt48.false c.if-digit-gt57.false c.if-next-most.true)
