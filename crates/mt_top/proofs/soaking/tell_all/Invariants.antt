use Rattle.std.proofs.Common.{◌≡◌, ◌-◌, []}
use Rattle.mt_compare.specs.mt_play.Plays.{IsOnJournal}
use Rattle.mt_soak.specs.Generated.{events_from}
use Rattle.mt_soak.specs.Summary.{IsTallyOf}
use Rattle.mt_top.specs.Begun.{Begun, Plays}
use Rattle.mt_top.proofs.Soaks.{Soaking}
use Rattle.mt_top.proofs.soaking.tell_all.Given as goal

-- what was told so far, for which node the code stands, and which events are left
abbrev pub invariant-loop-done : goal.invariant-loop-done
invariant-loop-done g l = record {
  soaking : (begun : Begun) → Plays l.fn.player begun → IsTallyOf l.fn.tally [] → Soaking begun (events_from l.fn.generator l.fn.count) l.player l.tally l.generator (l.fn.count - l.done);
  journal : IsOnJournal l.player;
  answered : l.generator.answered ≡ l.done;
}
