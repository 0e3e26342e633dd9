use Rattle.std.proofs.Common.{◌≡◌, ◌++◌, drop, map}
use Rattle.mt_machine.specs.Opened.{version_row}
use Rattle.mt_regained.proofs.opening.push_versions.Given as goal

-- the versions so far and those of the clusters to come are the versions of all clusters
abbrev pub invariant-loop-cluster : goal.invariant-loop-cluster
invariant-loop-cluster l = l.versions.items ++ map (version_row l.version l.endpoint) (drop l.cluster-index l.clusters) ≡ l.fn.versions.items ++ map (version_row l.version l.endpoint) l.clusters
