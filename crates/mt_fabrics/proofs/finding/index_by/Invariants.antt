-- the fabrics that were looked at have other identities
use Rattle.std.proofs.Common.{◌≡◌, drop}
use Rattle.mt_fabrics.specs.Table.{index_by}
use Rattle.mt_fabrics.proofs.finding.index_by.Given as goal

abbrev pub invariant-loop-fabric : goal.invariant-loop-fabric
invariant-loop-fabric l = index_by l.root_key l.fabric_id l.fabrics ≡ index_by l.root_key l.fabric_id (drop l.fabric-index l.fabrics)
