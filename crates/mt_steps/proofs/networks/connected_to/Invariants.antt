use Rattle.std.proofs.Common.{◌≡◌, ◌++◌, drop, map}
use Rattle.mt_machine.specs.Effects.{connected_to}
use Rattle.mt_steps.proofs.networks.connected_to.Given as goal

-- those so far, and what becomes of those to come
abbrev pub invariant-loop-network : goal.invariant-loop-network
invariant-loop-network l = l.behind ++ map (connected_to l.id) (drop l.network-index l.networks) ≡ map (connected_to l.id) l.networks
