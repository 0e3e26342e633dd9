-- those that were counted, and those of the rest
use Rattle.std.proofs.Common.{◌≡◌, ◌+◌, ◌≤◌, drop}
use Rattle.mt_exchange.specs.Opened.{count_of_peer}
use Rattle.mt_exchange.proofs.table.Table.count_of_peer.Given as goal

abbrev pub invariant-loop-at : goal.invariant-loop-at
invariant-loop-at l = (l.count ≤ l.at) × (l.count + count_of_peer (drop l.at l.self) ≡ count_of_peer l.self)
