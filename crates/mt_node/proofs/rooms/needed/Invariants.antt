use Rattle.std.proofs.Common.{◌≡◌, ◌+◌, drop, filter, length}
use Rattle.std.specs.List.{sum_by}
use Rattle.mt_model.specs.rows.Setting.{is_other_at}
use Rattle.mt_node.specs.Plan.{others_in}
use Rattle.mt_node.proofs.rooms.needed.Given as goal

-- so many so far, and what the steps to come set, are all
abbrev pub invariant-loop-step : goal.invariant-loop-step
invariant-loop-step l =
    l.needed + sum_by (others_in l.place l.fabric) (drop l.step-index l.steps) ≡ (length (filter (is_other_at l.place l.fabric) l.rows) + length l.values) + sum_by (others_in l.place l.fabric) l.steps
