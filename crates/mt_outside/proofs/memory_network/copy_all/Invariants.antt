use Rattle.std.proofs.Common.{◌≡◌, take}
use Rattle.mt_outside.proofs.memory_network.copy_all.Given as goal

abbrev pub invariant-arrivals : goal.invariant-arrivals
invariant-arrivals l = l.copied.items ≡ take l.arrival-index l.arrivals
