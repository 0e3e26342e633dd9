use Rattle.std.specs.Prelude.{length}
use Rattle.cases_worker.proofs.work.+are_above.Given as goal

abbrev pub decreases-are_above : goal.decreases-are_above
decreases-are_above l = length l.rows.now
