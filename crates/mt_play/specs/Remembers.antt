-- For which written run on its way a node stands with all that is shown of its sessions, and what a line makes of both.
use Rattle.std.specs.Prelude.{◌≡◌, List, Option, Some, None, map}
use Rattle.mt_model.specs.declared.texts.config.SessionRow.{SessionRow}
use Rattle.mt_model.specs.declared.texts.recording.Event.{Event}
use Rattle.mt_model.specs.declared.texts.recording.Sent.{Sent}
use Rattle.mt_whole.specs.mt_machine.Environment.{Environment}
use Rattle.mt_whole.specs.mt_runs.Course.{Going, stepped}
use Rattle.mt_whole.specs.mt_runs.Messages.{sent_on_way}
use Rattle.mt_whole.specs.mt_marks.Remembered.{ToldTalk, remembered, told_without_ended}
use Rattle.mt_whole.specs.declared.outcome.WholeOutcome.{WholeOutcome}
use Rattle.mt_play.specs.Plays.{IsPlaying}
use Rattle.mt_play.specs.declared.remembering.Remembering.{Remembering}

-- The node stands for this run, and what is remembered is all that is shown of its sessions.
pub record IsRemembering (remembering : Remembering) (given : Environment) (sessions : List SessionRow) (g : Going) : Type 0 where
  pub playing : IsPlaying remembering.playing given sessions g
  pub told : remembering.told ≡ map remembered g.whole.talks

-- This is what a line sends, and the node stands for the run behind it, with all that is shown.
pub record RemembersTo (given : Environment) (sessions : List SessionRow) (g : Going) (event : Event) (new : Remembering) (told : List Sent) : Type 0 where
  pub sent : told ≡ sent_on_way given g event
  pub stands : IsRemembering new given sessions (stepped given sessions g event)

-- what is remembered where the sessions that end with an outcome have dropped their exchanges; none end where the line stops the disk
abbrev pub dropped : Option WholeOutcome → List ToldTalk → List ToldTalk
dropped None talks = talks
dropped (Some outcome) talks = map (told_without_ended outcome.interactions.node.closed) talks
