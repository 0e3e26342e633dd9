-- the exchanges so far, and the rest
use Rattle.std.proofs.Common.{◌≡◌, ◌++◌, drop}
use Rattle.mt_exchange.specs.Resending.{resent}
use Rattle.mt_exchange.proofs.resending.resent.Given as goal

abbrev pub invariant-loop-at : goal.invariant-loop-at
invariant-loop-at l = l.all ++ resent l.now (drop l.at l.table) ≡ resent l.now l.table
