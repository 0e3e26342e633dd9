use Rattle.std.proofs.Common.{◌≡◌, ◌++◌, drop, filter, map}
use Rattle.mt_model.specs.tables.Leaving.{stays}
use Rattle.mt_model.specs.declared.tables.fabric.Fabric.{Fabric}
use Rattle.mt_steps.specs.Expired.{given_by}
use Rattle.mt_steps.proofs.expiry.fabrics_behind.Given as goal

-- the fabrics that stay so far, and those to come
abbrev pub invariant-loop-fabric : goal.invariant-loop-fabric
invariant-loop-fabric l = l.behind ++ map (given_by l.updated) (filter (λ (fabric : Fabric). stays l.added fabric.index) (drop l.fabric-index l.fabrics)) ≡ map (given_by l.updated) (filter (λ (fabric : Fabric). stays l.added fabric.index) l.fabrics)
