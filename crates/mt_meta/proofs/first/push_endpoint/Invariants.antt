use Rattle.std.proofs.Common.{◌≡◌, ◌++◌, drop}
use Rattle.std.specs.List.{flat_map}
use Rattle.mt_meta.specs.Stored.{first_rows_of_cluster}
use Rattle.mt_meta.proofs.first.push_endpoint.Given as goal

-- the rows so far and those of the clusters to come are the rows of all clusters
abbrev pub invariant-loop-cluster : goal.invariant-loop-cluster
invariant-loop-cluster l = l.rows.items ++ flat_map (first_rows_of_cluster l.endpoint) (drop l.cluster-index l.cluster-items) ≡ l.fn.rows.items ++ flat_map (first_rows_of_cluster l.endpoint) l.cluster-items
