use Rattle.std.proofs.Common.{◌≡◌, ◌+◌, drop, length}
use Rattle.std.specs.List.{sum_by}
use Rattle.mt_node.specs.Plan.{entries_in}
use Rattle.mt_node.proofs.effects.entries_needed.Given as goal

-- so many so far, and what the steps to come set, are all
abbrev pub invariant-loop-step : goal.invariant-loop-step
invariant-loop-step l = l.needed + sum_by entries_in (drop l.step-index l.steps) ≡ length l.entries + sum_by entries_in l.steps
