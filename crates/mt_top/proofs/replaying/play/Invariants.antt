use Rattle.std.proofs.Common.{◌≡◌, drop}
use Rattle.mt_compare.specs.mt_play.Plays.{IsOnJournal}
use Rattle.mt_top.specs.Begun.{Begun, Plays}
use Rattle.mt_top.proofs.Plays.{SoFar}
use Rattle.mt_top.proofs.replaying.play.Given as goal

-- what was told so far, and what is told for the rest
abbrev pub invariant-loop-event : goal.invariant-loop-event
invariant-loop-event g l = record {
  so_far : (begun : Begun) → Plays l.fn.player begun → SoFar begun l.player l.fn.events (drop l.event-index l.event-items) (g.W.Sink.written l.fn.out) (g.W.Sink.written l.out);
  journal : IsOnJournal l.player;
  calm : g.W.Sink.faults l.out ≡ g.W.Sink.faults l.fn.out;
}
