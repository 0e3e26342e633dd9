use Rattle.std.proofs.Common.{◌≡◌, ◌++◌, drop}
use Rattle.mt_machine.specs.Step.{closed_between}
use Rattle.mt_node.proofs.between.closed_between.Given as goal

-- those that ended so far, and those among the sessions to come
abbrev pub invariant-loop-i : goal.invariant-loop-i
invariant-loop-i l = l.closed ++ closed_between (drop l.i l.sessions) (drop l.i l.behind) ≡ closed_between l.sessions l.behind
