use Rattle.std.proofs.Common.{◌≡◌, drop}
use Rattle.mt_node.specs.mt_machine.Lines.{deadline_of}
use Rattle.mt_interactions.proofs.deadlines.deadline_of.Given as goal

-- the deadlines that were looked at are of others
abbrev pub invariant-loop-deadline : goal.invariant-loop-deadline
invariant-loop-deadline l = deadline_of l.asking l.deadlines ≡ deadline_of l.asking (drop l.deadline-index l.deadlines)
