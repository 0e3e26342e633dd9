use Rattle.std.proofs.Common.{◌≡◌, ◌++◌, drop, filter}
use Rattle.mt_commission.specs.NetworkCommissioning.{has_id}
use Rattle.mt_steps.proofs.networks.with_id.Given as goal

-- those so far, and what becomes of those to come
abbrev pub invariant-loop-network : goal.invariant-loop-network
invariant-loop-network l = l.found ++ filter (has_id l.id) (drop l.network-index l.networks) ≡ filter (has_id l.id) l.networks
