use Rattle.std.proofs.Common.{◌≡◌, drop, filter}
use Rattle.mt_runs.specs.mt_machine.Isolation.{owns}
use Rattle.mt_marks.specs.Placed.{standing}
use Rattle.mt_marks.proofs.own.rows.are_rows_same.Given as goal

-- where the rows at the places to come are the same, all are
abbrev pub invariant-loop-place : goal.invariant-loop-place
invariant-loop-place l =
    let places = drop l.place-index l.place-items in
    filter (owns l.fabric) (standing places l.one) ≡ filter (owns l.fabric) (standing places l.other) → filter (owns l.fabric) l.one ≡ filter (owns l.fabric) l.other
