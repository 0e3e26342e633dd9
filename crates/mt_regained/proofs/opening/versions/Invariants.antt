use Rattle.std.proofs.Common.{◌≡◌, ◌++◌, drop}
use Rattle.std.specs.List.{flat_map}
use Rattle.mt_machine.specs.Opened.{versions_of_endpoint}
use Rattle.mt_regained.proofs.opening.versions.Given as goal

-- the versions so far and those of the endpoints to come are the versions of all endpoints
abbrev pub invariant-loop-endpoint : goal.invariant-loop-endpoint
invariant-loop-endpoint l = l.versions.items ++ flat_map (versions_of_endpoint l.version) (drop l.endpoint-index l.all) ≡ flat_map (versions_of_endpoint l.version) l.all
