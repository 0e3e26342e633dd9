-- Where two lists of marks first differ.
use Rattle.std.specs.Prelude.{ℕ, ◌+◌, List, [], ◌∷◌, Option, Some, None, if◌then◌else◌}
use Rattle.mt_model.specs.declared.texts.config.SessionRow.{SessionRow}
use Rattle.mt_model.specs.declared.texts.recording.Event.{Event}
use Rattle.mt_runs.specs.mt_machine.Environment.{Environment}
use Rattle.mt_runs.specs.Course.{Going}
use Rattle.mt_runs.specs.Isolation.{OwnPart, PublicPart}
use Rattle.mt_runs.specs.Marks.{Mark, Unanswered, born, gone, reopened, seen}
use Rattle.mt_marks.specs.declared.difference.Part.{Part}
use Rattle.mt_marks.specs.declared.difference.Part.TheVariants as parts
use Rattle.mt_marks.specs.differences.Marked.{Marked, marked}
use Rattle.mt_marks.specs.differences.Codes.{are_same, of_own, of_unanswered}
use Rattle.mt_marks.specs.differences.Parts.{seen_part}

-- The first part in which two marks differ, if any. Marks of two kinds differ by event: what happened is not the same.

-- the own parts with which a fabric enters the table
abbrev pub born_part : OwnPart → OwnPart → Option Part
born_part one other = if are_same of_own one other then None else Some parts.Born

-- Two reopenings: which event of the fabric was left unanswered, and whether its change survived, belongs to what happened.
abbrev pub reopened_part : Event → PublicPart → Option Unanswered → Event → PublicPart → Option Unanswered → Option Part
reopened_part line p left other q left_too = if are_same of_unanswered left left_too then seen_part line p other q else Some parts.Event

abbrev pub part_between : Mark → Mark → Option Part
part_between (seen event p) (seen other q) = seen_part event p other q
part_between (reopened line p left) (reopened other q left_too) = reopened_part line p left other q left_too
part_between (born one) (born other) = born_part one other
part_between gone gone = None
part_between (seen event p) (reopened other q left) = Some parts.Event
part_between (seen event p) (born other) = Some parts.Event
part_between (seen event p) gone = Some parts.Event
part_between (reopened line p left) (seen other q) = Some parts.Event
part_between (reopened line p left) (born other) = Some parts.Event
part_between (reopened line p left) gone = Some parts.Event
part_between (born one) (seen other q) = Some parts.Event
part_between (born one) (reopened other q left) = Some parts.Event
part_between (born one) gone = Some parts.Event
part_between gone (seen other q) = Some parts.Event
part_between gone (reopened other q left) = Some parts.Event
part_between gone (born other) = Some parts.Event

-- The number of the first mark that differs, from 1; the first part in which it does; and the event at whose line it stands in each list, None
-- where that list has ended.
pub record Difference : Type 0 where
  pub number : ℕ
  pub part : Part
  pub first : Option Event
  pub second : Option Event

abbrev pub differs : ℕ → Part → Option Event → Option Event → Difference
differs number part first second = record { number = number; part = part; first = first; second = second }

-- a difference of these two marks, or what is further on
abbrev pub or_further : ℕ → Marked → Marked → Option Part → Option Difference → Option Difference
or_further number one other None further = further
or_further number one other (Some part) further = Some (differs number part (Some one.event) (Some other.event))

-- where the first marks of these lists have this number; where one list has ended the other differs by event
abbrev pub difference_from : ℕ → List Marked → List Marked → Option Difference
difference_from number [] [] = None
difference_from number (one ∷ ones) [] = Some (differs number parts.Event (Some one.event) None)
difference_from number [] (other ∷ others) = Some (differs number parts.Event None (Some other.event))
difference_from number (one ∷ ones) (other ∷ others) = or_further number one other (part_between one.mark other.mark) (difference_from (number + 1) ones others)

-- WHERE TWO RUNS FIRST DIFFER for a fabric, None where they don't.
abbrev pub difference : Environment → List SessionRow → ℕ → Going → List Event → List Event → Option Difference
difference given sessions fabric g first second = difference_from 1 (marked given sessions fabric g first) (marked given sessions fabric g second)
