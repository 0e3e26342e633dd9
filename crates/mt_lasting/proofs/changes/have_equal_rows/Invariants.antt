use Rattle.std.proofs.Common.{◌≡◌, take}
use Rattle.mt_lasting.specs.Changes.{rows_at_each}
use Rattle.mt_lasting.proofs.changes.have_equal_rows.Given as goal

-- the rows at the places so far are equal
abbrev pub invariant-loop-place : goal.invariant-loop-place
invariant-loop-place l = rows_at_each (take l.place-index l.places) l.before.rows ≡ rows_at_each (take l.place-index l.places) l.behind.rows
