use Rattle.mt_play.specs.Plays.{IsOnJournal}
use Rattle.cases_lasting.proofs.shown.played.Given as goal

abbrev pub invariant-loop-event : goal.invariant-loop-event
invariant-loop-event l = IsOnJournal l.show.node
