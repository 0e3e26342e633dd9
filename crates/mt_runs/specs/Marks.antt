-- What a fabric may learn of a run beside its own part: its marks, reopenings among them.
use Rattle.std.specs.Prelude.{ℕ, ◌==◌, ◌&&◌, ◌||◌, not, Bool, List, [], ◌∷◌, ◌++◌, Option, Some, None, if◌then◌else◌}
use Rattle.mt_model.specs.declared.texts.config.SessionRow.{SessionRow}
use Rattle.mt_model.specs.declared.texts.recording.Event.{Event}
use Rattle.mt_machine.specs.Environment.{Environment}
use Rattle.mt_machine.specs.Lines.{is_tick}
use Rattle.mt_machine.specs.State.{is_member}
use Rattle.mt_runs.specs.Course.{Course, Going, course, goes, stepped, stops, surviving}
use Rattle.mt_runs.specs.Isolation.{OwnPart, PublicPart, own_part, public_part}
use Rattle.mt_runs.specs.Lines.{fabric_of, is_stop, next}
use Rattle.mt_runs.specs.Reopening as reopenings
use Rattle.mt_runs.specs.Whole.{Whole}

-- The event of a fabric in which the disk stopped, so that it was left unanswered, and whether its change survived.
pub record Unanswered : Type 0 where
  pub event : Event
  pub survived : Bool

-- An event of the fabric, a time step or a line that stops the disk, with what is public to the fabric just before it. A reopening: by which
-- line, what was public just before the event in which the stop came, and which event of the fabric was left unanswered, if one was. The
-- fabric's own part as it enters the table. Its end, where it leaves the table by an event that is none of its own, or by a reopening.
pub data Mark : Type 0 where
  seen : Event → PublicPart → Mark
  reopened : Event → PublicPart → Option Unanswered → Mark
  born : OwnPart → Mark
  gone : Mark

-- whether the fabric is in the table
abbrev pub is_in : ℕ → Whole → Bool
is_in fabric w = is_member fabric w.state.node

abbrev pub is_of : ℕ → Whole → Event → Bool
is_of fabric w event = fabric_of w.state.node event == fabric

-- its own events, time steps and stops are seen
abbrev pub is_seen : ℕ → Whole → Event → Bool
is_seen fabric w event = is_of fabric w event || (is_tick event || is_stop event)

abbrev pub if_seen : ℕ → Whole → Event → List Mark
if_seen fabric w event = if is_seen fabric w event then seen event (public_part fabric w) ∷ [] else []

-- from one whole to the next

abbrev pub if_born : ℕ → Whole → Whole → List Mark
if_born fabric w behind = if not (is_in fabric w) && is_in fabric behind then born (own_part fabric behind) ∷ [] else []

abbrev pub if_gone : ℕ → Whole → Event → Whole → List Mark
if_gone fabric w event behind = if is_in fabric w && (not (is_in fabric behind) && not (is_of fabric w event)) then gone ∷ [] else []

-- by a reopening

abbrev pub left_unanswered : ℕ → Whole → Event → Bool → Option Unanswered
left_unanswered fabric w event survived = if is_of fabric w event then Some (record { event = event; survived = survived }) else None

abbrev pub if_lost : ℕ → Whole → Whole → List Mark
if_lost fabric w behind = if is_in fabric w && not (is_in fabric behind) then gone ∷ [] else []

-- the marks of one line
abbrev pub marks_in : Environment → List SessionRow → ℕ → Whole → Event → Course → List Mark
marks_in given sessions fabric w event (goes stop) = if_born fabric w (next given w event) ++ if_gone fabric w event (next given w event)
marks_in given sessions fabric w event (stops line survived) =
    reopened line (public_part fabric w) (left_unanswered fabric w event survived) ∷ if_lost fabric w (reopenings.reopened sessions (surviving given w event survived))

abbrev pub marks_at : Environment → List SessionRow → ℕ → Going → Event → List Mark
marks_at given sessions fabric g event = if_seen fabric g.whole event ++ marks_in given sessions fabric g.whole event (course given g event)

-- THE MARKS OF A FABRIC in a run, in the order of its lines
abbrev pub marks : Environment → List SessionRow → ℕ → Going → List Event → List Mark
marks given sessions fabric g [] = []
marks given sessions fabric g (event ∷ events) = marks_at given sessions fabric g event ++ marks given sessions fabric (stepped given sessions g event) events
