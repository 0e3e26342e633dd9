use Rattle.std.proofs.Common.{◌≡◌, None, drop, option_map}
use Rattle.mt_write.specs.Latest.{latest, row_set}
use Rattle.mt_write.proofs.latest.latest_row.Given as goal

-- what was found, and the steps from here on, give what all steps give
abbrev pub invariant-loop-step : goal.invariant-loop-step
invariant-loop-step l = latest (row_set l.place l.fabric) (option_map (λ values. values.now) l.found) (drop l.step-index l.steps) ≡ latest (row_set l.place l.fabric) None l.steps
