-- the first of the exchanges
use Rattle.std.proofs.Common.{◌≡◌, take}
use Rattle.mt_exchange.proofs.table.TableExactCopy.copy.Given as goal

abbrev pub invariant-loop-at : goal.invariant-loop-at
invariant-loop-at l = l.copy ≡ take l.at l.self
