use Rattle.std.proofs.Common.{◌≡◌, ◌++◌, drop}
use Rattle.std.specs.List.{flat_map}
use Rattle.mt_regained.specs.Regained.{rows_at}
use Rattle.mt_regained.proofs.kept_rows.rows_with.Given as goal

-- the rows so far, and those of the places to come
abbrev pub invariant-loop-place : goal.invariant-loop-place
invariant-loop-place l = l.rows.items ++ flat_map (rows_at l.kept) (drop l.place-index l.places) ≡ flat_map (rows_at l.kept) l.places
