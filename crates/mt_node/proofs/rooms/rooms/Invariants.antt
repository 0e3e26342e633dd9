use Rattle.std.proofs.Common.{take}
use Rattle.mt_node.proofs.Ample.{AreAmple}
use Rattle.mt_node.proofs.rooms.rooms.Given as goal

abbrev pub invariant-loop-step : goal.invariant-loop-step
invariant-loop-step l = AreAmple l.rows l.steps (take l.step-index l.steps) l.rooms.items
