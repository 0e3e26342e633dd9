use Rattle.std.proofs.Common.{◌≡◌, not, drop}
use Rattle.std.specs.List.{find}
use Rattle.mt_model.specs.declared.tables.fabric.Fabric.{Fabric}
use Rattle.mt_machine.specs.State.{is_among}
use Rattle.mt_node.proofs.between.gone_between.Given as goal

-- the fabrics that were looked at are still there
abbrev pub invariant-loop-fabric : goal.invariant-loop-fabric
invariant-loop-fabric l = find (λ (fabric : Fabric). not (is_among l.behind fabric.index)) l.fabrics ≡ find (λ (fabric : Fabric). not (is_among l.behind fabric.index)) (drop l.fabric-index l.fabrics)
