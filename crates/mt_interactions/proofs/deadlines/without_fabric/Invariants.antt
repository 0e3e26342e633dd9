use Rattle.std.proofs.Common.{◌≡◌, ◌++◌, Some, drop, filter}
use Rattle.mt_model.specs.tables.Leaving.{stays}
use Rattle.mt_model.specs.declared.node.action.PlainDeadline.{PlainDeadline}
use Rattle.mt_interactions.proofs.deadlines.without_fabric.Given as goal

-- those of others so far, and those among the deadlines to come
abbrev pub invariant-loop-deadline : goal.invariant-loop-deadline
invariant-loop-deadline l = l.rest ++ filter (λ (deadline : PlainDeadline). stays (Some l.fabric) deadline.fabric) (drop l.deadline-index l.deadlines) ≡ filter (λ (deadline : PlainDeadline). stays (Some l.fabric) deadline.fabric) l.deadlines
