-- what is due so far, and of the rest
use Rattle.std.proofs.Common.{◌≡◌, ◌++◌, drop}
use Rattle.mt_exchange.specs.Resending.{due_again}
use Rattle.mt_exchange.proofs.resending.due_again.Given as goal

abbrev pub invariant-loop-at : goal.invariant-loop-at
invariant-loop-at l = l.datagrams.items ++ due_again l.now (drop l.at l.table) ≡ due_again l.now l.table
