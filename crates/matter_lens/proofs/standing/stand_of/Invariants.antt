use Rattle.mt_play.specs.Plays.{IsOnJournal}
use Rattle.matter_lens.proofs.standing.stand_of.Given as goal

abbrev pub invariant-loop-event : goal.invariant-loop-event
invariant-loop-event l = IsOnJournal l.node
