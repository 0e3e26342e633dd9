use Rattle.std.proofs.Common.{◌++◌, List, drop}
use Rattle.mt_interactions.specs.mt_runs.Whole.{begun_in}
use Rattle.mt_whole.specs.declared.talks.SessionTalk as code
use Rattle.mt_whole.specs.Talks.{AreTalks}
use Rattle.mt_whole.proofs.talks.begun.Given as goal

-- the talks so far, and any of the rows to come, are those of all rows
abbrev pub invariant-loop-row : goal.invariant-loop-row
invariant-loop-row l =
    (more : List code.SessionTalk) → AreTalks more (begun_in l.boot (drop l.row-index l.rows))
    → AreTalks (l.talks.items ++ more) (begun_in l.boot l.rows)
