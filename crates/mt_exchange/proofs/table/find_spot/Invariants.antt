-- all before this place are below the key
use Rattle.std.proofs.Common.{ℕ, ◌<◌, get_or}
use Rattle.mt_exchange.specs.declared.exchange.Exchange.{Exchange}
use Rattle.mt_exchange.specs.Opened.{rank}
use Rattle.mt_exchange.proofs.table.find_spot.Given as goal

abbrev pub invariant-loop-at : goal.invariant-loop-at
invariant-loop-at l = (k : ℕ) (d : Exchange) → k < l.at → rank (get_or l.exchanges k d).key < rank l.fn.key
