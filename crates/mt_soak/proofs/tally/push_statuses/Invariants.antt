-- the lines so far and those of the codes to come are those of all
use Rattle.std.proofs.Common.{◌≡◌, ℕ, List, ◌++◌}
use Rattle.mt_soak.specs.Summary.{AreCountsOf}
use Rattle.mt_soak.proofs.Totals.{rest_of}
use Rattle.mt_soak.proofs.tally.push_statuses.Given as goal

abbrev pub invariant-each : goal.invariant-each
invariant-each l = (statuses : List ℕ) → AreCountsOf statuses l.counts → l.out.items ++ rest_of statuses l.code ≡ l.initial.out.items ++ rest_of statuses 0
