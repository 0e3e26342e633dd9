use Rattle.std.proofs.Common.{◌↔◌, drop}
use Rattle.mt_outside.specs.Network.{AreInOrder}
use Rattle.mt_outside.proofs.memory_network.are_in_order.Given as goal

abbrev pub invariant-arrivals : goal.invariant-arrivals
invariant-arrivals l = AreInOrder 0 l.arrivals ↔ AreInOrder l.clock (drop l.arrival-index l.arrivals)
