use Rattle.std.proofs.Common.{◌≡◌, ◌++◌, drop}
use Rattle.std.specs.List.{flat_map}
use Rattle.mt_meta.specs.Stored.{first_rows_of_endpoint}
use Rattle.mt_meta.proofs.first.rows.Given as goal

-- the rows so far and those of the endpoints to come are the rows of all endpoints
abbrev pub invariant-loop-endpoint : goal.invariant-loop-endpoint
invariant-loop-endpoint l = l.rows.items ++ flat_map first_rows_of_endpoint (drop l.endpoint-index l.endpoint-items) ≡ flat_map first_rows_of_endpoint l.endpoint-items
