-- What a line makes of a fabric's place in the table, and what it leaves unanswered.
use Rattle.std.specs.Prelude.{ℕ, ◌&&◌, not, Bool, List, [], ◌∷◌, Option, Some, None, if◌then◌else◌}
use Rattle.mt_model.specs.declared.texts.recording.Event.{Event}
use Rattle.mt_play.specs.mt_runs.Isolation.{own_part}
use Rattle.mt_play.specs.mt_runs.Whole.{Whole}
use Rattle.mt_play.specs.mt_runs.Marks.{Mark, born, gone}
use Rattle.mt_play.specs.mt_marks.Unanswered.{Unanswered}
use Rattle.mt_compare.specs.declared.passing.Passed.{Passed}
use Rattle.mt_compare.specs.declared.passing.Passed.TheVariants as passes

-- by whether the fabric was in the table, whether the event is its own, and whether it is in the table behind it
abbrev pub passed_by : Bool → Bool → Bool → Passed
passed_by was is_own is = if not was && is then passes.Enters else if was && (not is && not is_own) then passes.Leaves else passes.Stays

-- the marks of it
abbrev pub marks_of_change : ℕ → Whole → Passed → List Mark
marks_of_change fabric behind passes.Stays = []
marks_of_change fabric behind passes.Enters = born (own_part fabric behind) ∷ []
marks_of_change fabric behind passes.Leaves = gone ∷ []

-- the event, where it is the fabric's own
abbrev pub left_by : Bool → Event → Bool → Option Unanswered
left_by is_own event survived = if is_own then Some (record { event = event; survived = survived }) else None
