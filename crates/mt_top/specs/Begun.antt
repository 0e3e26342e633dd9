-- A node that was started and is on its way, and what is given to it.
use Rattle.std.specs.Prelude.{◌≡◌, ◌++◌, ℕ, List}
use Rattle.std.specs.Global.{Vec}
use Rattle.mt_files.specs.Output.{output_text}
use Rattle.mt_model.specs.texts.Contents.{Contents}
use Rattle.mt_model.specs.declared.texts.config.SessionRow.{SessionRow}
use Rattle.mt_model.specs.declared.texts.recording.Event.{Event}
use Rattle.mt_model.specs.declared.texts.recording.Sent.{Sent}
use Rattle.mt_compare.specs.mt_machine.Environment.{Environment, given_by}
use Rattle.mt_compare.specs.mt_runs.Course.{Going, going_on, stepped}
use Rattle.mt_compare.specs.mt_runs.Messages.{sent_on_way}
use Rattle.mt_compare.specs.mt_runs.Whole.{whole_with}
use Rattle.mt_compare.specs.mt_play.Plays.{IsPlaying}
use Rattle.mt_compare.specs.mt_play.Playing.{Playing}
use Rattle.mt_soak.specs.Summary.{IsTallyOf}
use Rattle.mt_soak.specs.declared.tally.Tally.{Tally}

pub record Begun : Type 0 where
  pub given : Environment
  -- the sessions of all its boots
  pub sessions : List SessionRow
  pub going : Going

-- as a configuration begins it, in the first boot of its node, with no stop of the disk to come
abbrev pub begun_with : Contents → Begun
begun_with contents = record { given = given_by contents; sessions = contents.sessions; going = going_on (whole_with 1 0 contents.fabrics contents.entries contents.sessions) }

-- what it sends for an event, and itself behind it
abbrev pub sent_by : Begun → Event → List Sent
sent_by begun event = sent_on_way begun.given begun.going event

abbrev pub behind : Begun → Event → Begun
behind begun event = record begun { going = stepped begun.given begun.sessions begun.going event }

-- A node as the code has it stands for this one.
abbrev pub Plays : Playing → Begun → Type 0
Plays node begun = IsPlaying node begun.given begun.sessions begun.going

-- The text is that of what an event sends, and the node stands for the one behind it.
abbrev pub Steps : Begun → Playing → Event → Vec ℕ → Type 0
Steps old new event text = (text.items ≡ output_text (sent_by old event)) × Plays new (behind old event)

-- a tally is told of it
abbrev pub Tells : Begun → List Sent → Playing → Tally → Event → Type 0
Tells old before new tally event = IsTallyOf tally (before ++ sent_by old event) × Plays new (behind old event)
