-- the codes of the messages so far are counted
use Rattle.std.proofs.Common.{ℕ, List, ◌++◌, take}
use Rattle.mt_soak.specs.Summary.{AreCountsOf, codes_sent}
use Rattle.mt_soak.proofs.tally.count.Given as goal

abbrev pub invariant-each : goal.invariant-each
invariant-each l = (statuses : List ℕ) → AreCountsOf statuses l.initial.counts → AreCountsOf (statuses ++ codes_sent (take l.message-index l.sent)) l.counts
