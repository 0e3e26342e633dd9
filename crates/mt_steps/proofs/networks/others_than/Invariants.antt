use Rattle.std.proofs.Common.{◌≡◌, ◌++◌, drop}
use Rattle.mt_machine.specs.Effects.{others_than}
use Rattle.mt_steps.proofs.networks.others_than.Given as goal

-- those so far, and what becomes of those to come
abbrev pub invariant-loop-network : goal.invariant-loop-network
invariant-loop-network l = l.others ++ others_than l.id (drop l.network-index l.networks) ≡ others_than l.id l.networks
