use Rattle.std.proofs.Common.{◌≡◌, ◌++◌, drop, map}
use Rattle.mt_model.specs.tables.Known.{bare_network}
use Rattle.mt_marks.proofs.making.bare_networks.Given as goal

-- the networks so far, and those to come
abbrev pub invariant-loop-network : goal.invariant-loop-network
invariant-loop-network l = l.bare.items ++ map bare_network (drop l.network-index l.networks) ≡ map bare_network l.networks
