-- the ends so far, and of the rest
use Rattle.std.proofs.Common.{◌≡◌, ◌++◌, drop}
use Rattle.mt_exchange.specs.Resending.{end_times}
use Rattle.mt_exchange.proofs.resending.end_times.Given as goal

abbrev pub invariant-loop-at : goal.invariant-loop-at
invariant-loop-at l = l.times.items ++ end_times (drop l.at l.table) ≡ end_times l.table
