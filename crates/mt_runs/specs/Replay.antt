-- What a fabric is sent, made of its own part and its marks and of nothing else.
use Rattle.std.specs.Prelude.{ℕ, ◌+◌, ◌&&◌, not, Bool, true, false, List, [], ◌∷◌, ◌++◌, Option, Some, None, map, unwrap_or, if◌then◌else◌}
use Rattle.mt_fabrics.specs.Table.{is_used}
use Rattle.mt_model.specs.declared.texts.config.SessionRow.{SessionRow}
use Rattle.mt_model.specs.declared.texts.recording.Event.{Event}
use Rattle.mt_machine.specs.Environment.{Environment}
use Rattle.mt_machine.specs.Lines.{is_tick}
use Rattle.mt_runs.specs.Course.{Course, Going, course, goes, stepped, stops, surviving}
use Rattle.mt_runs.specs.Isolation.{OwnPart, PublicPart, own_part, seen_whole}
use Rattle.mt_runs.specs.Lines.{next, sent}
use Rattle.mt_runs.specs.Marks.{Mark, Unanswered, born, gone, is_in, is_of, reopened, seen}
use Rattle.mt_runs.specs.Messages.{Message, message_to}
use Rattle.mt_runs.specs.Reopening as reopenings
use Rattle.mt_runs.specs.Reopening.{reopened_own}
use Rattle.mt_runs.specs.Whole.{Whole}

-- A fabric that is in the table holds its own part, any other nothing.

abbrev pub held : ℕ → Whole → Option OwnPart
held fabric w = if is_in fabric w then Some (own_part fabric w) else None

-- whether the fabric is in the table, as its own part tells
abbrev pub is_there : ℕ → OwnPart → Bool
is_there fabric o = is_used fabric o.whole.node.fabrics

abbrev pub if_there : ℕ → OwnPart → Option OwnPart
if_there fabric o = if is_there fabric o then Some o else None

-- Behind a line that it sees: what that makes of the whole that is built of its own part and of what is public to it.

abbrev pub held_seen : Environment → ℕ → Event → PublicPart → Option OwnPart → Option OwnPart
held_seen given fabric event public None = None
held_seen given fabric event public (Some o) = if_there fabric (own_part fabric (next given (seen_whole fabric o public) event))

abbrev pub sent_seen : Environment → ℕ → Event → PublicPart → Option OwnPart → List Message
sent_seen given fabric event public None = []
sent_seen given fabric event public (Some o) = map (message_to fabric) (sent given (seen_whole fabric o public) event)

-- Behind a reopening: what survived of what it held, in the next boot.

-- of its own event what that made of it, where it survived
abbrev pub held_survived : Environment → ℕ → PublicPart → Option Unanswered → Option OwnPart → Option OwnPart
held_survived given fabric public None o = o
held_survived given fabric public (Some unanswered) o = if unanswered.survived then held_seen given fabric unanswered.event public o else o

abbrev pub held_again : List SessionRow → ℕ → ℕ → Option OwnPart → Option OwnPart
held_again sessions boot fabric None = None
held_again sessions boot fabric (Some o) = Some (reopened_own sessions boot fabric o)

-- what it holds behind a mark
abbrev pub held_behind : Environment → List SessionRow → ℕ → Option OwnPart → Mark → Option OwnPart
held_behind given sessions fabric o (seen event public) = held_seen given fabric event public o
held_behind given sessions fabric o (reopened line public unanswered) = held_again sessions (public.node.boot + 1) fabric (held_survived given fabric public unanswered o)
held_behind given sessions fabric o (born own) = Some own
held_behind given sessions fabric o gone = None

-- what it is sent at a mark
abbrev pub sent_at : Environment → ℕ → Option OwnPart → Mark → List Message
sent_at given fabric o (seen event public) = sent_seen given fabric event public o
sent_at given fabric o (reopened line public unanswered) = []
sent_at given fabric o (born own) = []
sent_at given fabric o gone = []

-- An event that is left unanswered is told by the mark of the reopening, which follows it: nothing is sent, and what is held stays until then.

abbrev pub leaves_unanswered : Mark → Bool
leaves_unanswered (seen event public) = false
leaves_unanswered (reopened line public None) = false
leaves_unanswered (reopened line public (Some unanswered)) = true
leaves_unanswered (born own) = false
leaves_unanswered gone = false

abbrev pub is_left : List Mark → Bool
is_left [] = false
is_left (mark ∷ marks) = leaves_unanswered mark

abbrev pub sent_before : Environment → ℕ → Option OwnPart → Mark → List Mark → List Message
sent_before given fabric o mark marks = if is_left marks then [] else sent_at given fabric o mark

abbrev pub held_before : Environment → List SessionRow → ℕ → Option OwnPart → Mark → List Mark → Option OwnPart
held_before given sessions fabric o mark marks = if is_left marks then o else held_behind given sessions fabric o mark

-- ALL THAT IT IS SENT
abbrev pub replayed : Environment → List SessionRow → ℕ → Option OwnPart → List Mark → List Message
replayed given sessions fabric o [] = []
replayed given sessions fabric o (mark ∷ marks) = sent_before given fabric o mark marks ++ replayed given sessions fabric (held_before given sessions fabric o mark marks) marks

-- what it holds at the end
abbrev pub held_after : Environment → List SessionRow → ℕ → Option OwnPart → List Mark → Option OwnPart
held_after given sessions fabric o [] = o
held_after given sessions fabric o (mark ∷ marks) = held_after given sessions fabric (held_before given sessions fabric o mark marks) marks

-- THE OWN PARTS WITH WHICH ITS LIVES END: what it held just before each line behind which it is not in the table any more. Where the disk stops
-- in a line, and the node is reopened without it, that is what the reopening leaves of what it held until then, unless an event of its own or a
-- time step took it before.

abbrev pub if_leaves : ℕ → Whole → Whole → OwnPart → List OwnPart
if_leaves fabric w behind o = if is_in fabric w && not (is_in fabric behind) then o ∷ [] else []

-- whether it holds what a line changes as the node is reopened: of its own event where that survived, and of a time step, which it sees, whether
-- that survived or not; nothing of another's
abbrev pub holds_change : ℕ → Whole → Event → Bool → Bool
holds_change fabric w event survived = if is_of fabric w event then survived else is_tick event

abbrev pub left_by_reopening : Environment → List SessionRow → ℕ → Whole → Event → Bool → OwnPart
left_by_reopening given sessions fabric w event survived =
    unwrap_or (held_again sessions (w.state.node.boot + 1) fabric (held fabric (surviving given w event (holds_change fabric w event survived)))) (own_part fabric w)

-- in one line
abbrev pub ends_in : Environment → List SessionRow → ℕ → Whole → Event → Course → List OwnPart
ends_in given sessions fabric w event (goes stop) = if_leaves fabric w (next given w event) (own_part fabric w)
ends_in given sessions fabric w event (stops line survived) = if_leaves fabric w (reopenings.reopened sessions (surviving given w event survived)) (left_by_reopening given sessions fabric w event survived)

-- in a run
abbrev pub ends : Environment → List SessionRow → ℕ → Going → List Event → List OwnPart
ends given sessions fabric g [] = []
ends given sessions fabric g (event ∷ events) = ends_in given sessions fabric g.whole event (course given g event) ++ ends given sessions fabric (stepped given sessions g event) events

-- And by its marks: what it held before each mark behind which it holds nothing.

abbrev pub if_ends : Option OwnPart → Option OwnPart → List OwnPart
if_ends None now = []
if_ends (Some o) None = o ∷ []
if_ends (Some o) (Some now) = []

abbrev pub ends_by : Environment → List SessionRow → ℕ → Option OwnPart → List Mark → List OwnPart
ends_by given sessions fabric o [] = []
ends_by given sessions fabric o (mark ∷ marks) = if_ends o (held_before given sessions fabric o mark marks) ++ ends_by given sessions fabric (held_before given sessions fabric o mark marks) marks
