use Rattle.std.proofs.Common.{◌≡◌, ◌++◌, drop, filter}
use Rattle.std.specs.List.{flat_map}
use Rattle.mt_meta.specs.Places.{is_named, places_of_cluster}
use Rattle.mt_meta.proofs.expansion.push_endpoint.Given as goal

-- the places so far and those of the clusters to come are the places of all clusters
abbrev pub invariant-loop-cluster : goal.invariant-loop-cluster
invariant-loop-cluster l = l.named.items ++ filter (is_named l.path) (flat_map (places_of_cluster l.endpoint) (drop l.cluster-index l.cluster-items)) ≡ l.fn.named.items ++ filter (is_named l.path) (flat_map (places_of_cluster l.endpoint) l.cluster-items)
