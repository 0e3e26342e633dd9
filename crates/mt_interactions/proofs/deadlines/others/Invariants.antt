use Rattle.std.proofs.Common.{◌≡◌, ◌+◌, ◌≤◌, drop}
use Rattle.mt_interactions.specs.Plan.{others_in}
use Rattle.mt_interactions.proofs.deadlines.others.Given as goal

-- those counted so far, and those among the deadlines to come
abbrev pub invariant-loop-deadline : goal.invariant-loop-deadline
invariant-loop-deadline l = record {
  counted : l.count + others_in l.asking (drop l.deadline-index l.deadlines) ≡ others_in l.asking l.deadlines;
  few : l.count ≤ l.deadline-index;
}
