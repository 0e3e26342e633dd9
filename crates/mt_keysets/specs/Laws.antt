-- That the group key sets of a fabric are its own, through whole runs.
use Rattle.std.specs.Prelude.{◌≡◌, ◌≢◌, ℕ, true, List, [], ◌∷◌}
use Rattle.mt_model.specs.texts.Config.{are_sessions}
use Rattle.mt_model.specs.declared.texts.config.SessionRow.{SessionRow}
use Rattle.mt_model.specs.declared.texts.recording.Event.{Event}
use Rattle.mt_opcreds.specs.Laws.{KeepsRules}
use Rattle.mt_machine.specs.Environment.{Environment}
use Rattle.mt_runs.specs.Course.{Going, stepped}
use Rattle.mt_runs.specs.Isolation.{IsValidWhole}
use Rattle.mt_runs.specs.Laws.{HasRoom}
use Rattle.mt_runs.specs.Lines.{fabric_of}
use Rattle.mt_runs.specs.Marks.{is_in}
use Rattle.mt_runs.specs.Messages.{behind}
use Rattle.mt_keysets.specs.Runs.{sets_behind}
use Rattle.mt_keysets.specs.Sets.{sets_of}

-- THE SETS OF A FABRIC ARE ITS OWN: at each moment of a run, which is the end of one that is shorter, they are those that it had at first,
-- changed by its own commands that got status 0, and emptied wherever it entered the table or left it.
abbrev pub SetsAreItsOwn : Type 0
SetsAreItsOwn = (given : Environment) (sessions : List SessionRow) (fabric : ℕ) (g : Going) (events : List Event) → KeepsRules given.judged → are_sessions sessions ≡ true → IsValidWhole g.whole → HasRoom g events → fabric ≢ 0
    → sets_of fabric (behind given sessions g events).whole.state.node ≡ sets_behind given sessions fabric g events (sets_of fabric g.whole.state.node)

-- So a line that is none of its own leaves them as they are while it stays in the table, whoever asks and whatever becomes of the line.
abbrev pub OthersLeaveThem : Type 0
OthersLeaveThem = (given : Environment) (sessions : List SessionRow) (fabric : ℕ) (g : Going) (event : Event) → KeepsRules given.judged → are_sessions sessions ≡ true → IsValidWhole g.whole → HasRoom g (event ∷ []) → fabric ≢ 0
    → is_in fabric g.whole ≡ true → is_in fabric (stepped given sessions g event).whole ≡ true → fabric_of g.whole.state.node event ≢ fabric
    → sets_of fabric (stepped given sessions g event).whole.state.node ≡ sets_of fabric g.whole.state.node
