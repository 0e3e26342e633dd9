-- the fabrics that were looked at have other indexes
use Rattle.std.proofs.Common.{◌≡◌, drop}
use Rattle.mt_fabrics.specs.Table.{is_used}
use Rattle.mt_opcreds.proofs.finding.used_index.Given as goal

abbrev pub invariant-loop-fabric : goal.invariant-loop-fabric
invariant-loop-fabric l = is_used l.index (drop l.fabric-index l.fabrics) ≡ is_used l.index l.fabrics
