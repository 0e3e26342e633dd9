-- The group key sets of a fabric through a run, made of those at its beginning and of its lines: beside the run a list of sets goes from line to
-- line. Of the run it takes whether the fabric is in the table, which of its commands get status 0, and where the disk stops.
use Rattle.std.specs.Prelude.{ℕ, not, Bool, List, [], ◌∷◌, if◌then◌else◌}
use Rattle.mt_tlv.specs.declared.value.Value.{Value}
use Rattle.mt_model.specs.declared.texts.config.SessionRow.{SessionRow}
use Rattle.mt_model.specs.declared.texts.recording.Event.{Event}
use Rattle.mt_machine.specs.Environment.{Environment}
use Rattle.mt_runs.specs.Course.{Course, Going, course, goes, stepped, stops}
use Rattle.mt_runs.specs.Marks.{is_in}
use Rattle.mt_runs.specs.Whole.{Whole}
use Rattle.mt_keysets.specs.Changes.{behind_line}

-- A line in which the disk stops counts exactly where its change survived.
abbrev pub sets_in_course : Environment → ℕ → Whole → Event → Course → List Value → List Value
sets_in_course given fabric w event (goes stop) sets = behind_line given fabric w event sets
sets_in_course given fabric w event (stops line survived) sets = if survived then behind_line given fabric w event sets else sets

-- whether the fabric enters the table, or leaves it, between two moments
abbrev pub enters_or_leaves : ℕ → Whole → Whole → Bool
enters_or_leaves fabric before now = if is_in fabric before then not (is_in fabric now) else is_in fabric now

-- Who enters has no sets, and nobody keeps any who leaves.
abbrev pub sets_stepped : Environment → List SessionRow → ℕ → Going → Event → List Value → List Value
sets_stepped given sessions fabric g event sets =
    if enters_or_leaves fabric g.whole (stepped given sessions g event).whole then []
    else sets_in_course given fabric g.whole event (course given g event) sets

-- THE SETS OF A FABRIC BEHIND A RUN, where these were there before it
abbrev pub sets_behind : Environment → List SessionRow → ℕ → Going → List Event → List Value → List Value
sets_behind given sessions fabric g [] sets = sets
sets_behind given sessions fabric g (event ∷ events) sets =
    sets_behind given sessions fabric (stepped given sessions g event) events (sets_stepped given sessions fabric g event sets)
