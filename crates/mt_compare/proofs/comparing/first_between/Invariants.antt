use Rattle.std.proofs.Common.{List}
use Rattle.mt_model.specs.declared.texts.config.SessionRow.{SessionRow}
use Rattle.mt_play.specs.mt_machine.Environment.{Environment}
use Rattle.mt_play.specs.mt_runs.Course.{Going}
use Rattle.mt_play.specs.Plays.{IsOnJournal}
use Rattle.mt_play.specs.Remembers.{IsRemembering}
use Rattle.mt_compare.proofs.Abreast.{Abreast}
use Rattle.mt_compare.proofs.comparing.first_between.Given as goal

-- both nodes are on their journals, and the sides have gone on together
abbrev pub invariant-loop-number : goal.invariant-loop-number
invariant-loop-number l = record {
  mine : IsOnJournal l.mine.node.playing;
  theirs : IsOnJournal l.theirs.node.playing;
  abreast : (given : Environment) (sessions : List SessionRow) (g h : Going) → IsRemembering l.fn.mine.node given sessions g → IsRemembering l.fn.theirs.node given sessions h
      → Abreast given sessions l.fabric g h l.fn.mine l.fn.theirs l.mine l.theirs l.number;
}
