use Rattle.std.proofs.Common.{◌^◌, ◌≤◌, arith}
use Rattle.std.proofs.Math.Nat.{pow-le-pow_right}
use Rattle.mt_frame.proofs.field.flag.Goals as goal

pub returns-then-set-clause-small : goal.returns-then-set-clause-small
returns-then-set-clause-small c =
    let small : 2 ^ c.args.bit ≤ 2 ^ 4 = pow-le-pow_right {n = 2} (omega arith) {i = c.args.bit} {j = 4} (omega arith) in
    omega (arith, small)
