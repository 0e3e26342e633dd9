use Rattle.std.proofs.Common.{◌≡◌, length}
use Rattle.mt_durable.specs.Maps.{have_values}
use Rattle.mt_durable.proofs.durable.have_values.Given as goal

abbrev pub invariant-entries : goal.invariant-entries
invariant-entries l = have_values l.left ≡ have_values l.entries

abbrev pub decreases-entries : goal.decreases-entries
decreases-entries l = length l.left
