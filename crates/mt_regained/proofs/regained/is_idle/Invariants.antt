use Rattle.std.proofs.Common.{◌≡◌, drop}
use Rattle.std.specs.List.{list_any}
use Rattle.mt_model.specs.tables.Holding.{is_root_of}
use Rattle.mt_regained.proofs.regained.is_idle.Given as goal

-- the fabrics that were looked at have other roots
abbrev pub invariant-loop-fabric : goal.invariant-loop-fabric
invariant-loop-fabric l = list_any (is_root_of l.root) l.fabrics ≡ list_any (is_root_of l.root) (drop l.fabric-index l.fabrics)
