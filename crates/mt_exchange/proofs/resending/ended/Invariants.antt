-- the subscriptions so far, and of the rest
use Rattle.std.proofs.Common.{◌≡◌, ◌++◌, drop}
use Rattle.mt_exchange.specs.Resending.{ended_by}
use Rattle.mt_exchange.proofs.resending.ended.Given as goal

abbrev pub invariant-loop-at : goal.invariant-loop-at
invariant-loop-at l = l.ends.items ++ ended_by l.now (drop l.at l.table) ≡ ended_by l.now l.table
