use Rattle.std.proofs.Common.{◌≡◌, List, None, length}
use Rattle.mt_model.specs.declared.texts.config.SessionRow.{SessionRow}
use Rattle.mt_play.specs.mt_machine.Environment.{Environment}
use Rattle.mt_play.specs.mt_runs.Course.{Going}
use Rattle.mt_play.specs.Plays.{IsOnJournal}
use Rattle.mt_play.specs.Remembers.{IsRemembering}
use Rattle.mt_compare.proofs.Going.{HasGone}
use Rattle.mt_compare.proofs.side.Side.go_to_next.Given as goal

-- the node is on its journal, no end is still to be told, and the marks that are left at first are left now
abbrev pub invariant-events : goal.invariant-events
invariant-events l = record {
  journal : IsOnJournal l.self.node.playing;
  told : l.self.lost ≡ None;
  goes : (given : Environment) (sessions : List SessionRow) (g : Going) → IsRemembering l.fn.self.node given sessions g → HasGone given sessions l.fabric g l.fn.self l.self;
}

abbrev pub decreases-events : goal.decreases-events
decreases-events l = length l.self.rest.now
