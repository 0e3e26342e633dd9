-- The marks of a fabric in a run, each with the event at whose line it stands.
use Rattle.std.specs.Prelude.{ℕ, List, [], ◌∷◌, ◌++◌, map}
use Rattle.mt_model.specs.declared.texts.config.SessionRow.{SessionRow}
use Rattle.mt_model.specs.declared.texts.recording.Event.{Event}
use Rattle.mt_runs.specs.mt_machine.Environment.{Environment}
use Rattle.mt_runs.specs.Course.{Course, Going, course, goes, stepped, stops}
use Rattle.mt_runs.specs.Lines.{next}
use Rattle.mt_runs.specs.Marks.{Mark, if_born, if_gone, if_seen, marks_in as marks_behind}
use Rattle.mt_runs.specs.Whole.{Whole}

-- a mark, and the event at whose line it stands
pub record Marked : Type 0 where
  pub event : Event
  pub mark : Mark

abbrev pub marked_at : Event → Mark → Marked
marked_at event mark = record { event = event; mark = mark }

abbrev pub all_at : Event → List Mark → List Marked
all_at event marks = map (marked_at event) marks

-- what an event makes of the fabric's place in the table: it enters, it leaves by another's step, or neither
abbrev pub if_changed : ℕ → Whole → Event → Whole → List Mark
if_changed fabric w event behind = if_born fabric w behind ++ if_gone fabric w event behind

-- Behind what is seen of a line: what changes for the fabric, at that line; or the marks of a reopening, at the line that stops the disk.
abbrev pub marked_behind : Environment → List SessionRow → ℕ → Whole → Event → Course → List Marked
marked_behind given sessions fabric w event (goes stop) = all_at event (if_changed fabric w event (next given w event))
marked_behind given sessions fabric w event (stops line survived) = all_at line (marks_behind given sessions fabric w event (stops line survived))

-- THE MARKS OF A FABRIC in a run, each where it stands
abbrev pub marked : Environment → List SessionRow → ℕ → Going → List Event → List Marked
marked given sessions fabric g [] = []
marked given sessions fabric g (event ∷ events) =
    all_at event (if_seen fabric g.whole event)
    ++ (marked_behind given sessions fabric g.whole event (course given g event) ++ marked given sessions fabric (stepped given sessions g event) events)

-- the marks alone
abbrev pub marks_in : List Marked → List Mark
marks_in all = map (λ (marked : Marked). marked.mark) all
