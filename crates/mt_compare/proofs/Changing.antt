-- What a line that is carried out makes of a fabric's place in the table, by whether it was and is there.
use Rattle.std.proofs.Common.{◌≡◌, ℕ, ◌==◌, ◌&&◌, not, Bool, true, false, List, [], ◌∷◌, ◌++◌, refl, sym, ap, subst, ◌∙◌, if◌then◌else◌}
use Rattle.mt_model.specs.declared.texts.config.SessionRow.{SessionRow}
use Rattle.mt_model.specs.declared.texts.recording.Event.{Event}
use Rattle.mt_play.specs.mt_machine.Environment.{Environment}
use Rattle.mt_play.specs.mt_machine.State.{is_member}
use Rattle.mt_play.specs.mt_runs.Course.{Course, Going, behind_course, course, stepped}
use Rattle.mt_play.specs.mt_runs.Isolation.{own_part}
use Rattle.mt_play.specs.mt_runs.Lines.{fabric_of}
use Rattle.mt_play.specs.mt_runs.Whole.{Whole}
use Rattle.mt_play.specs.mt_runs.Marks.{Mark, born, gone, is_in, is_of}
use Rattle.mt_play.specs.mt_marks.Marked.{all_at, if_changed, marked_behind}
use Rattle.mt_play.specs.Courses.{IsGoing, course_in}
use Rattle.mt_play.specs.declared.course.Course as code
use Rattle.mt_play.specs.declared.course.Course.TheVariants as codes
use Rattle.mt_compare.specs.Passing.{marks_of_change, passed_by}
use Rattle.mt_compare.specs.declared.passing.Passed.{Passed}

module _ (fabric : ℕ) (behind : Whole) where
  abbrev change : Bool → Bool → Bool → List Mark
  change was own is = (if not was && is then born (own_part fabric behind) ∷ [] else []) ++ (if was && (not is && not own) then gone ∷ [] else [])

  by_place : (was own is : Bool) → change was own is ≡ marks_of_change fabric behind (passed_by was own is)
  by_place true true true = refl
  by_place true true false = refl
  by_place true false true = refl
  by_place true false false = refl
  by_place false true true = refl
  by_place false true false = refl
  by_place false false true = refl
  by_place false false false = refl

  changed_by : (w : Whole) (event : Event) (was own is : Bool) → is_in fabric w ≡ was → is_of fabric w event ≡ own → is_in fabric behind ≡ is
      → if_changed fabric w event behind ≡ marks_of_change fabric behind (passed_by was own is)
  changed_by w event was own is before of after = (λ i. change (before i) (of i) (after i)) ∙ by_place was own is

module _ (given : Environment) (sessions : List SessionRow) (fabric : ℕ) (g : Going) (event : Event) where
  abbrev behind_it : Whole
  behind_it = (stepped given sessions g event).whole

  -- behind what is seen of the line it marks what changes for the fabric, where this becomes of it
  abbrev MarksAChange : Course → Type 0
  MarksAChange c = marked_behind given sessions fabric g.whole event c ≡ all_at event (if_changed fabric g.whole event (behind_course given sessions g.whole event c).whole)

  carried_out : (planned : code.Course) → IsGoing planned → course_in planned ≡ course given g event → MarksAChange (course given g event)
  carried_out (codes.Goes stop) goes is = subst MarksAChange is refl
  carried_out (codes.Stops by survives) goes is = absurd goes

  pub changes : (planned : code.Course) → IsGoing planned → course_in planned ≡ course given g event → (was is : Bool) (acting : ℕ) (passed : Passed)
      → was ≡ is_member fabric g.whole.state.node → acting ≡ fabric_of g.whole.state.node event → is ≡ is_member fabric behind_it.state.node → passed ≡ passed_by was (acting == fabric) is
      → marked_behind given sessions fabric g.whole event (course given g event) ≡ all_at event (marks_of_change fabric behind_it passed)
  changes planned goes becomes was is acting passed had acts has told =
      let of : is_of fabric g.whole event ≡ (acting == fabric) = sym (ap (λ (n : ℕ). n == fabric) acts) in
      carried_out planned goes becomes
      ∙ ap (all_at event) (changed_by fabric behind_it g.whole event was (acting == fabric) is (sym had) of (sym has))
      ∙ ap (λ (p : Passed). all_at event (marks_of_change fabric behind_it p)) (sym told)
