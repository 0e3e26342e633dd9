use Rattle.std.proofs.Common.{◌≡◌, length}
use Rattle.mt_durable.specs.Maps.{value_under}
use Rattle.mt_durable.proofs.durable.value_under.Given as goal

abbrev pub invariant-entries : goal.invariant-entries
invariant-entries l = value_under l.key l.left ≡ value_under l.key l.entries

abbrev pub decreases-entries : goal.decreases-entries
decreases-entries l = length l.left
