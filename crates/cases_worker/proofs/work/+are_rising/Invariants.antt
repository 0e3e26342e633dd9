use Rattle.std.specs.Prelude.{length}
use Rattle.cases_worker.proofs.work.+are_rising.Given as goal

abbrev pub decreases-are_rising : goal.decreases-are_rising
decreases-are_rising l = length l.rows.now
