use Rattle.std.proofs.Common.{◌≡◌, ◌++◌, drop, filter, map}
use Rattle.mt_meta.specs.Places.{is_named, place_of}
use Rattle.mt_meta.proofs.expansion.push_attributes.Given as goal

-- the places so far and those of the rows to come are the places of all rows
abbrev pub invariant-loop-row : goal.invariant-loop-row
invariant-loop-row l = l.named.items ++ filter (is_named l.path) (map (place_of l.endpoint l.cluster) (drop l.row-index l.rows)) ≡ l.fn.named.items ++ filter (is_named l.path) (map (place_of l.endpoint l.cluster) l.rows)
