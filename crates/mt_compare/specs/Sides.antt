-- For which marks a side stands, and how it goes on.
use Rattle.std.specs.Prelude.{◌≡◌, ◌&&◌, not, ℕ, Bool, true, false, List, [], ◌∷◌, ◌++◌, Option, Some, None, if◌then◌else◌}
use Rattle.std.specs.Borrow.{Bor}
use Rattle.std.specs.Option.{option_map}
use Rattle.mt_model.specs.declared.texts.config.SessionRow.{SessionRow}
use Rattle.mt_model.specs.declared.texts.recording.Event.{Event}
use Rattle.mt_model.specs.declared.texts.recording.Event.TheVariants as events
use Rattle.mt_play.specs.mt_machine.Environment.{Environment}
use Rattle.mt_play.specs.mt_runs.Course.{Going, course, stepped}
use Rattle.mt_play.specs.mt_runs.Isolation.{own_part, public_part}
use Rattle.mt_play.specs.mt_runs.Marks.{Mark, born, gone, is_seen, seen}
use Rattle.mt_play.specs.mt_marks.Seen.{reopened_in, seen_in}
use Rattle.mt_play.specs.mt_marks.Marked.{Marked, all_at, marked, marked_behind}
use Rattle.mt_play.specs.Remembers.{IsRemembering}
use Rattle.mt_play.specs.declared.course.ComingStop.{ComingStop}
use Rattle.mt_play.specs.declared.course.Course as code
use Rattle.mt_play.specs.declared.course.Course.TheVariants as codes
use Rattle.mt_compare.specs.declared.side.Here.{Here}
use Rattle.mt_compare.specs.declared.side.Here.TheVariants as heres
use Rattle.mt_compare.specs.declared.side.LineOf.{LineOf}
use Rattle.mt_compare.specs.declared.side.LineOf.TheVariants as lines
use Rattle.mt_compare.specs.declared.side.Side.{Side}

-- the line at which a mark stands
abbrev pub line_in : LineOf → Event
line_in (lines.Event event) = event.now
line_in (lines.Stop calls fate) = events.Stop calls fate

abbrev pub IsAt : Event → Option LineOf → Type 0
IsAt event line = option_map line_in line ≡ Some event

-- the course of a line in which the disk stops
abbrev pub stops_by : ComingStop → Bool → code.Course
stops_by by survives = codes.Stops by survives

-- the marks of events of which the first was told already, as far as the fabric sees it
abbrev pub unseen : Environment → List SessionRow → ℕ → Going → List Event → List Marked
unseen given sessions fabric g [] = []
unseen given sessions fabric g (event ∷ events) =
    marked_behind given sessions fabric g.whole event (course given g event) ++ marked given sessions fabric (stepped given sessions g event) events

-- the marks that are left
abbrev pub left : Environment → List SessionRow → ℕ → Going → Bool → List Event → List Marked
left given sessions fabric g true events = unseen given sessions fabric g events
left given sessions fabric g false events = marked given sessions fabric g events

-- the line of a reopening, where the fabric was in the table before it, and is not behind it
abbrev pub lost_by : Bool → Bool → LineOf → Option LineOf
lost_by was is line = if was && not is then Some line else None

-- the end by a reopening that is still to be told, at the line that stopped the disk
abbrev pub if_lost_at : Option LineOf → List Marked
if_lost_at (Some line) = all_at (line_in line) (gone ∷ [])
if_lost_at None = []

-- those of a side
abbrev pub left_of : Environment → List SessionRow → ℕ → Going → Side → List Marked
left_of given sessions fabric g side = if_lost_at side.lost ++ left given sessions fabric g side.is_seen side.rest.now

-- the mark that stands here, in a node that stands for this run
abbrev pub mark_in : ℕ → Going → Here → Mark
mark_in fabric g (heres.Seen mark) = seen_in mark
mark_in fabric g (heres.Reopened mark unanswered) = reopened_in mark unanswered
mark_in fabric g heres.Enters = born (own_part fabric g.whole)
mark_in fabric g heres.Leaves = gone

-- behind a look at an event
pub record Looks (old new : Side) : Type 0 where
  pub node : new.node ≡ old.node
  pub rest : new.rest ≡ old.rest
  pub told : new.is_seen ≡ true
  pub lost : new.lost ≡ old.lost

abbrev pub HasSeen : ℕ → Going → Bor Event → Side → Side → Bool → Type 0
HasSeen fabric g event old new false = (is_seen fabric g.whole event.now ≡ false) × Looks old new
HasSeen fabric g event old new true = (is_seen fabric g.whole event.now ≡ true) × Looks old new × (mark_in fabric g new.here ≡ seen event.now (public_part fabric g.whole)) × IsAt event.now new.line

-- the same where that was not told yet
abbrev pub HasLooked : ℕ → Going → Bor Event → Side → Side → Bool → Type 0
HasLooked fabric g event old new false = Looks old new × (old.is_seen ≡ false → is_seen fabric g.whole event.now ≡ false)
HasLooked fabric g event old new true = (old.is_seen ≡ false) × HasSeen fabric g event old new true

-- behind an event: the marks that it makes behind what is seen of it: none, or the one that stands here and an end that is still to be told
abbrev pub MarksHere : ℕ → Going → Side → Bool → List Marked → Type 0
MarksHere fabric now new false marks = (marks ≡ []) × (new.lost ≡ None)
MarksHere fabric now new true marks = (line : Event) × IsAt line new.line × (marks ≡ record { event = line; mark = mark_in fabric now new.here } ∷ if_lost_at new.lost)

pub record Passes (given : Environment) (sessions : List SessionRow) (fabric : ℕ) (g : Going) (event : Event) (behind : List Event) (new : Side) (is_marked : Bool) : Type 0 where
  pub stands : IsRemembering new.node given sessions (stepped given sessions g event)
  pub unseen : new.is_seen ≡ false
  pub rest : new.rest.now ≡ behind
  pub marks : MarksHere fabric (stepped given sessions g event) new is_marked (marked_behind given sessions fabric g.whole event (course given g event))

abbrev pub HasPassed : Environment → List SessionRow → ℕ → Going → Bor Event → Bor (List Event) → Side → Bool → Type 0
HasPassed given sessions fabric g event behind new is_marked = Passes given sessions fabric g event.now behind.now new is_marked

-- A side goes on: to its next mark, or there is none.

pub record GoesTo (given : Environment) (sessions : List SessionRow) (fabric : ℕ) (g : Going) (old new : Side) : Type 0 where
  pub now : Going
  pub line : Event
  pub stands : IsRemembering new.node given sessions now
  pub at : IsAt line new.line
  pub left : left_of given sessions fabric g old ≡ record { event = line; mark = mark_in fabric now new.here } ∷ left_of given sessions fabric now new

abbrev pub GoesOn : Environment → List SessionRow → ℕ → Going → Side → Side → Bool → Type 0
GoesOn given sessions fabric g old new false = left_of given sessions fabric g old ≡ []
GoesOn given sessions fabric g old new true = GoesTo given sessions fabric g old new
