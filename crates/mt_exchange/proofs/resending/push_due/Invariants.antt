-- what is due so far, and of the rest
use Rattle.std.proofs.Common.{◌≡◌, ◌++◌, drop, map, filter}
use Rattle.mt_exchange.specs.Resending.{is_due}
use Rattle.mt_exchange.proofs.resending.push_due.Given as goal

abbrev pub invariant-loop-o : goal.invariant-loop-o
invariant-loop-o l =
    l.datagrams.items ++ map (λ o. o.datagram) (filter (is_due l.now) (drop l.o-index l.owed))
    ≡ l.fn.datagrams.items ++ map (λ o. o.datagram) (filter (is_due l.now) l.owed)
