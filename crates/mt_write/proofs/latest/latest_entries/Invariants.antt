use Rattle.std.proofs.Common.{◌≡◌, None, drop, option_map}
use Rattle.mt_write.specs.Latest.{entries_set, latest}
use Rattle.mt_write.proofs.latest.latest_entries.Given as goal

-- what was found, and the steps from here on, give what all steps give
abbrev pub invariant-loop-step : goal.invariant-loop-step
invariant-loop-step l = latest (entries_set l.fabric) (option_map (λ entries. entries.now) l.found) (drop l.step-index l.steps) ≡ latest (entries_set l.fabric) None l.steps
