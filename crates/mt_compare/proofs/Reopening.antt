-- What a line marks in which the disk stops: the reopening, and that it took the fabric where it did.
use Rattle.std.proofs.Common.{◌≡◌, ℕ, ◌==◌, ◌&&◌, not, Bool, true, false, List, [], ◌∷◌, Option, Some, None, refl, sym, ap, ap₂, subst, ◌∙◌, if◌then◌else◌}
use Rattle.std.specs.Option.{option_map}
use Rattle.mt_model.specs.declared.texts.config.SessionRow.{SessionRow}
use Rattle.mt_model.specs.declared.texts.recording.Event.{Event}
use Rattle.mt_model.specs.declared.texts.recording.Event.TheVariants as events
use Rattle.mt_play.specs.mt_machine.Environment.{Environment}
use Rattle.mt_play.specs.mt_machine.State.{is_member}
use Rattle.mt_play.specs.mt_runs.Course.{Course, Going, behind_course, course, stepped, stops}
use Rattle.mt_play.specs.mt_runs.Isolation.{public_part}
use Rattle.mt_play.specs.mt_runs.Lines.{fabric_of}
use Rattle.mt_play.specs.mt_runs.Whole.{Whole}
use Rattle.mt_play.specs.mt_runs.Marks.{Mark, Unanswered, gone, if_lost, is_of, left_unanswered, reopened, seen}
use Rattle.mt_play.specs.mt_marks.Seen.{reopened_in, seen_in, unanswered_in}
use Rattle.mt_play.specs.mt_marks.Mark as code_mark
use Rattle.mt_play.specs.mt_marks.Unanswered as code_left
use Rattle.mt_play.specs.mt_marks.Marked.{Marked, all_at, marked_at, marked_behind}
use Rattle.mt_play.specs.Courses.{course_in}
use Rattle.mt_play.specs.declared.course.ComingStop.{ComingStop}
use Rattle.mt_play.specs.declared.course.Course as code
use Rattle.mt_compare.specs.Passing.{left_by}
use Rattle.mt_compare.specs.Sides.{if_lost_at, line_in, lost_by, stops_by}
use Rattle.mt_compare.specs.declared.side.LineOf.{LineOf}
use Rattle.mt_compare.specs.declared.side.LineOf.TheVariants as lines

-- which event was left unanswered

abbrev left_if : Event → Bool → Bool → Option Unanswered
left_if event survived own = if own then Some (record { event = event; survived = survived }) else None

left_as : (event : Event) (survived own : Bool) → option_map unanswered_in (left_by own event survived) ≡ left_if event survived own
left_as event survived true = refl
left_as event survived false = refl

-- whether the reopening took the fabric

abbrev gone_if : Bool → Bool → List Mark
gone_if was is = if was && not is then gone ∷ [] else []

lost_as : (line : LineOf) (was is : Bool) → all_at (line_in line) (gone_if was is) ≡ if_lost_at (lost_by was is line)
lost_as line true true = refl
lost_as line true false = refl
lost_as line false true = refl
lost_as line false false = refl

-- what is public beside a line, as the mark of a reopening has it
abbrev with_left : Option Unanswered → Mark → Mark
with_left left (seen line p) = reopened line p left
with_left left mark = mark

module _ (given : Environment) (sessions : List SessionRow) (fabric : ℕ) (g : Going) (event : Event) where
  abbrev behind_it : Whole
  behind_it = (stepped given sessions g event).whole

  -- behind what is seen of the line it marks a reopening by this line, where this becomes of it
  abbrev MarksAReopening : Event → Bool → Course → Type 0
  MarksAReopening line survived c = marked_behind given sessions fabric g.whole event c
      ≡ marked_at line (reopened line (public_part fabric g.whole) (left_unanswered fabric g.whole event survived)) ∷ all_at line (if_lost fabric g.whole (behind_course given sessions g.whole event c).whole)

  stopped : (line : Event) (survived : Bool) → stops line survived ≡ course given g event → MarksAReopening line survived (course given g event)
  stopped line survived is = subst (MarksAReopening line survived) is refl

  module _ (by : ComingStop) (survived : Bool) where
    abbrev line : Event
    line = events.Stop by.asked by.fate

    reopened_as : (mark : code_mark.Mark) (left : Option code_left.Unanswered) (acting : ℕ) → seen_in mark ≡ seen line (public_part fabric g.whole) → left ≡ left_by (acting == fabric) event survived
        → acting ≡ fabric_of g.whole.state.node event → reopened line (public_part fabric g.whole) (left_unanswered fabric g.whole event survived) ≡ reopened_in mark left
    reopened_as mark left acting shown unanswered acts =
        let of : (acting == fabric) ≡ is_of fabric g.whole event = ap (λ (n : ℕ). n == fabric) acts in
        let left_is : option_map unanswered_in left ≡ left_unanswered fabric g.whole event survived =
        ap (option_map unanswered_in) unanswered ∙ left_as event survived (acting == fabric) ∙ ap (left_if event survived) of in
        sym (ap₂ with_left left_is shown)

    lost_so : (was is : Bool) (lost : Option LineOf) → was ≡ is_member fabric g.whole.state.node → is ≡ is_member fabric behind_it.state.node → lost ≡ lost_by was is (lines.Stop by.asked by.fate)
        → all_at line (if_lost fabric g.whole behind_it) ≡ if_lost_at lost
    lost_so was is lost had has told = ap (all_at line) (sym (ap₂ gone_if had has)) ∙ lost_as (lines.Stop by.asked by.fate) was is ∙ ap if_lost_at (sym told)

    pub reopens : (planned : code.Course) → planned ≡ stops_by by survived → course_in planned ≡ course given g event
        → (mark : code_mark.Mark) (left : Option code_left.Unanswered) (was is : Bool) (acting : ℕ) (lost : Option LineOf)
        → seen_in mark ≡ seen line (public_part fabric g.whole) → left ≡ left_by (acting == fabric) event survived
        → was ≡ is_member fabric g.whole.state.node → acting ≡ fabric_of g.whole.state.node event → is ≡ is_member fabric behind_it.state.node → lost ≡ lost_by was is (lines.Stop by.asked by.fate)
        → marked_behind given sessions fabric g.whole event (course given g event) ≡ marked_at line (reopened_in mark left) ∷ if_lost_at lost
    reopens planned stopping becomes mark left was is acting lost shown unanswered had acts has told =
        stopped line survived (sym (ap course_in stopping) ∙ becomes)
        ∙ ap₂ (λ (head : Mark) (rest : List Marked). marked_at line head ∷ rest) (reopened_as mark left acting shown unanswered acts) (lost_so was is lost had has told)
