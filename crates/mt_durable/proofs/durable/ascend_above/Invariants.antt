use Rattle.std.proofs.Common.{◌≡◌, length}
use Rattle.mt_durable.specs.Maps.{ascend_above}
use Rattle.mt_durable.proofs.durable.ascend_above.Given as goal

abbrev pub invariant-entries : goal.invariant-entries
invariant-entries l = ascend_above l.low l.left ≡ ascend_above l.key l.entries

abbrev pub decreases-entries : goal.decreases-entries
decreases-entries l = length l.left
