-- How a recording goes on its way: which line makes calls of the disk, in which line the disk stops, and whether what that line changes
-- survives.
use Rattle.std.specs.Prelude.{ℕ, ◌-◌, ◌==◌, nat_le, Bool, true, false, List, [], ◌∷◌, Option, Some, None, if◌then◌else◌}
use Rattle.mt_durable.specs.declared.durable.Entry.{Entry}
use Rattle.mt_regained.specs.mt_lasting.Changes.{change_between}
use Rattle.mt_model.specs.declared.texts.config.SessionRow.{SessionRow}
use Rattle.mt_model.specs.declared.texts.recording.Event.{Event}
use Rattle.mt_model.specs.declared.texts.recording.Event.TheVariants as events
use Rattle.mt_outside.specs.declared.fate.Fate.{Fate}
use Rattle.mt_outside.specs.declared.fate.Fate.TheVariants.{Kept, Lost, Torn}
use Rattle.mt_machine.specs.Environment.{Environment}
use Rattle.mt_runs.specs.Lines.{next}
use Rattle.mt_runs.specs.Reopening.{ceiling_of, reopened}
use Rattle.mt_runs.specs.Whole.{Whole}

-- A stop that is to come: in which of the later calls that write or sync, from 1, with what fate, and by which line of the recording.
pub record Stop : Type 0 where
  pub calls : ℕ
  pub fate : Fate
  pub line : Event

-- A node on its way: the whole, and the stop that is to come.
pub record Going : Type 0 where
  pub whole : Whole
  pub stop : Option Stop

abbrev pub going_on : Whole → Going
going_on w = record { whole = w; stop = None }

-- A line makes four calls of the disk (the bytes are written, then synced, the gate is written, then synced) where it changes what lasts, and
-- none where it does not.

abbrev pub says_any : List Entry → Bool
says_any [] = false
says_any (entry ∷ entries) = true

-- whether what lasts of the one is another than that of the other
abbrev pub has_changed : Whole → Whole → Bool
has_changed w v = says_any (change_between w.state.node (ceiling_of w) v.state.node (ceiling_of v))

abbrev pub changes_what_lasts : Environment → Whole → Event → Bool
changes_what_lasts given w event = has_changed w (next given w event)

-- What becomes of a line: it is carried out, and this stop is to come behind it; or the stop of that line of the recording comes in it, and its
-- change survives or not.
pub data Course : Type 0 where
  goes : Option Stop → Course
  stops : Event → Bool → Course

-- a change survives once its gate is written, where what was written is kept
abbrev pub is_kept : Fate → Bool
is_kept Kept = true
is_kept Lost = false
is_kept Torn = false

abbrev pub survives : Stop → Bool
survives stop = if nat_le 3 stop.calls then is_kept stop.fate else false

abbrev pub call_by_call : Option Stop → Course
call_by_call None = goes None
call_by_call (Some stop) = if nat_le stop.calls 4 then stops stop.line (survives stop) else goes (Some (record stop { calls = stop.calls - 4 }))

-- A line that stops the disk at once reopens the node; any other such line takes the place of the stop that was to come.
abbrev pub course_of_stop : ℕ → Fate → Course
course_of_stop calls fate = if calls == 0 then stops (events.Stop calls fate) false else goes (Some (record { calls = calls; fate = fate; line = events.Stop calls fate }))

abbrev pub course_of_line : Bool → Option Stop → Course
course_of_line true stop = call_by_call stop
course_of_line false stop = goes stop

-- WHAT BECOMES OF A LINE
abbrev pub course : Environment → Going → Event → Course
course given g (events.Stop calls fate) = course_of_stop calls fate
course given g event = course_of_line (changes_what_lasts given g.whole event) g.stop

-- the whole with which the node is reopened
abbrev pub surviving : Environment → Whole → Event → Bool → Whole
surviving given w event survived = if survived then next given w event else w

abbrev pub behind_course : Environment → List SessionRow → Whole → Event → Course → Going
behind_course given sessions w event (goes stop) = record { whole = next given w event; stop = stop }
behind_course given sessions w event (stops line survived) = going_on (reopened sessions (surviving given w event survived))

-- THE NODE ON ITS WAY BEHIND A LINE
abbrev pub stepped : Environment → List SessionRow → Going → Event → Going
stepped given sessions g event = behind_course given sessions g.whole event (course given g event)
