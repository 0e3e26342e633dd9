use Rattle.std.proofs.Common.{◌≡◌, ◌++◌, drop, filter}
use Rattle.std.specs.List.{flat_map}
use Rattle.mt_meta.specs.Places.{is_named, places_of_endpoint}
use Rattle.mt_meta.proofs.expansion.named.Given as goal

-- the places so far and those of the endpoints to come are the places of all endpoints
abbrev pub invariant-loop-endpoint : goal.invariant-loop-endpoint
invariant-loop-endpoint l = l.named.items ++ filter (is_named l.path) (flat_map places_of_endpoint (drop l.endpoint-index l.endpoint-items)) ≡ filter (is_named l.path) (flat_map places_of_endpoint l.endpoint-items)
