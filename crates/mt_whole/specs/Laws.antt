-- Laws of wholes, of their outcomes and of what is a fabric's own of them.
use Rattle.std.specs.Prelude.{◌≡◌, ◌↔◌, ℕ, map}
use Rattle.mt_model.specs.declared.texts.recording.Event.{Event}
use Rattle.mt_interactions.specs.mt_machine.Environment.{Environment}
use Rattle.mt_interactions.specs.mt_machine.Step.{closed_between}
use Rattle.mt_interactions.specs.mt_runs.Isolation.{own_part}
use Rattle.mt_interactions.specs.mt_runs.Lines.{next, talks_behind}
use Rattle.mt_interactions.specs.mt_runs.Whole.{Whole, without_ended}
use Rattle.mt_marks.specs.Remembered.{remembered}
use Rattle.mt_whole.specs.Plan.{Brings, IsPlanned}
use Rattle.mt_whole.specs.Seeing.{own_standing}
use Rattle.mt_whole.specs.declared.outcome.WholeOutcome.{WholeOutcome}

-- The sessions that end with an outcome are those that end behind the event.
abbrev pub ClosedAreThoseThatEnd : Type 0
ClosedAreThoseThatEnd = (given : Environment) (w : Whole) (event : Event) (outcome : WholeOutcome) → IsPlanned w.state w.ledger outcome → Brings given w event outcome
    → outcome.interactions.node.closed ≡ closed_between w.state.node.sessions (next given w event).state.node.sessions

-- What is said behind the event is what the line adds, of which those that end have let go.
abbrev pub TalksLetGoWhatCloses : Type 0
TalksLetGoWhatCloses = (given : Environment) (w : Whole) (event : Event) (outcome : WholeOutcome) → IsPlanned w.state w.ledger outcome → Brings given w event outcome
    → (next given w event).talks ≡ map (without_ended outcome.interactions.node.closed) (talks_behind given w event)

-- Own parts are the same exactly where what stands is, and all that is shown of the live sessions.
abbrev pub OwnPartsAreStandingsAndTalks : Type 0
OwnPartsAreStandingsAndTalks = (fabric : ℕ) (w v : Whole)
    → (own_part fabric w ≡ own_part fabric v) ↔ ((own_standing fabric w ≡ own_standing fabric v) × (map remembered (own_part fabric w).talks ≡ map remembered (own_part fabric v).talks))
