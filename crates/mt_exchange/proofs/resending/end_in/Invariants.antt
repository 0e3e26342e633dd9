-- the end that is known so far, with the rest
use Rattle.std.proofs.Common.{◌≡◌, drop, None}
use Rattle.mt_exchange.specs.Resending.{end_in}
use Rattle.mt_exchange.proofs.resending.end_in.Given as goal

abbrev pub invariant-loop-o : goal.invariant-loop-o
invariant-loop-o l = end_in l.end (drop l.o-index l.owed) ≡ end_in None l.owed
