use Rattle.std.proofs.Common.{arith}
use Rattle.mt_tlv.proofs.Cursors.{leave_kinds}
use Rattle.mt_tlv.proofs.cursor.step.Goals as goal

pub returns-in-Leave-clause-kinds : goal.returns-in-Leave-clause-kinds
returns-in-Leave-clause-kinds c = rw c.in-Leave.is (leave_kinds c.args.kinds.now c.args.depth (rw c.in-Leave.is at c.requires.can) (omega arith))
