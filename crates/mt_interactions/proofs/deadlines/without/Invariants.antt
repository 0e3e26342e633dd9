use Rattle.std.proofs.Common.{◌≡◌, ◌++◌, drop}
use Rattle.mt_node.specs.mt_machine.Lines.{without}
use Rattle.mt_interactions.proofs.deadlines.without.Given as goal

-- those of others so far, and those among the deadlines to come
abbrev pub invariant-loop-deadline : goal.invariant-loop-deadline
invariant-loop-deadline l = l.rest ++ without l.asking (drop l.deadline-index l.deadlines) ≡ without l.asking l.deadlines
