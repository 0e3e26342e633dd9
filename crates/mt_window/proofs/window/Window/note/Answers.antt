use Rattle.mt_window.proofs.Marks.{stands-risen, stands-noted}
use Rattle.std.proofs.Common.{arith}
use Rattle.mt_window.proofs.window.Window.note.Goals as goal

pub returns-then-counter-self : goal.returns-then-counter-self
returns-then-counter-self c start accepted stands =
    stands-risen start accepted c.args.self.now stands c.args.counter (omega arith) c.moved.result c.moved.ensures.free c.moved.ensures.kept

pub returns-else-counter-self : goal.returns-else-counter-self
returns-else-counter-self c start accepted stands =
    stands-noted start accepted c.args.self.now stands c.args.counter (omega arith) (omega arith)
