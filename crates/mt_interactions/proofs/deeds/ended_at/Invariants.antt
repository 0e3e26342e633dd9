use Rattle.std.proofs.Common.{◌≡◌, ◌++◌, drop}
use Rattle.mt_interactions.specs.Deeds.{ended_at}
use Rattle.mt_interactions.proofs.deeds.ended_at.Given as goal

-- those so far, and those among the rest
abbrev pub invariant-loop-end : goal.invariant-loop-end
invariant-loop-end l = l.ids.items ++ ended_at l.ms (drop l.end-index l.at) ≡ ended_at l.ms l.at
