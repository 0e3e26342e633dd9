use Rattle.std.proofs.Common.{List}
use Rattle.mt_interactions.specs.mt_runs.Whole.{SessionTalk as Told}
use Rattle.mt_whole.specs.Talks.{AreTalks}
use Rattle.mt_whole.proofs.Listed.{first_without}
use Rattle.mt_whole.proofs.talks.let_go.Given as goal

-- the first ones have let go
abbrev pub invariant-loop-talk : goal.invariant-loop-talk
invariant-loop-talk l = (ts : List Told) → AreTalks l.fn.talks ts → AreTalks l.talks (first_without l.closed l.talk-index ts)
