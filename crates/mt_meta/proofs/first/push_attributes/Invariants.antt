use Rattle.std.proofs.Common.{◌≡◌, ◌++◌, drop}
use Rattle.std.specs.List.{flat_map}
use Rattle.mt_meta.specs.Stored.{first_rows_of}
use Rattle.mt_meta.proofs.first.push_attributes.Given as goal

-- the rows so far and those of the attributes to come are the rows of all attributes
abbrev pub invariant-loop-row : goal.invariant-loop-row
invariant-loop-row l = l.rows.items ++ flat_map (first_rows_of l.endpoint l.cluster) (drop l.row-index l.attributes) ≡ l.fn.rows.items ++ flat_map (first_rows_of l.endpoint l.cluster) l.attributes
