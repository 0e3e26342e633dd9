use Rattle.std.proofs.Common.{◌≡◌, ◌++◌, drop, map}
use Rattle.mt_machine.specs.Effects.{with_secret}
use Rattle.mt_steps.proofs.networks.with_secrets.Given as goal

-- those so far, and what becomes of those to come
abbrev pub invariant-loop-network : goal.invariant-loop-network
invariant-loop-network l = l.behind ++ map (with_secret l.id l.secret) (drop l.network-index l.networks) ≡ map (with_secret l.id l.secret) l.networks
