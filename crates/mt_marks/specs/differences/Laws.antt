-- Laws of marks that are compared.
use Rattle.std.specs.Prelude.{◌≡◌, ◌↔◌, ℕ, ◌+◌, ◌<◌, true, List, Option, Some, None, slice_get, take}
use Rattle.mt_model.specs.declared.texts.config.SessionRow.{SessionRow}
use Rattle.mt_model.specs.declared.texts.recording.Event.{Event}
use Rattle.mt_runs.specs.mt_machine.Environment.{Environment}
use Rattle.mt_runs.specs.Course.{Going}
use Rattle.mt_runs.specs.Isolation.{OwnPart, PublicPart}
use Rattle.mt_runs.specs.Marks.{Mark, marks}
use Rattle.mt_marks.specs.Parts.{place_of}
use Rattle.mt_marks.specs.declared.difference.Part.{Part}
use Rattle.mt_marks.specs.declared.difference.Part.TheVariants as parts
use Rattle.mt_marks.specs.differences.Difference.{Difference, born_part, difference, difference_from, part_between}
use Rattle.mt_marks.specs.differences.Marked.{Marked, marked, marks_in}
use Rattle.mt_marks.specs.differences.Parts.{IsSameSeen, is_same_seen, seen_part}

-- The marks that stand at events are the marks of the run, in their order.
abbrev pub MarkedAreMarks : Type 0
MarkedAreMarks = (given : Environment) (sessions : List SessionRow) (fabric : ℕ) (g : Going) (events : List Event) → marks_in (marked given sessions fabric g events) ≡ marks given sessions fabric g events

-- A part is found the same exactly where it is.
abbrev pub SamePartsAreSame : Type 0
SamePartsAreSame = (part : Part) (event other : Event) (p q : PublicPart) → (is_same_seen part event p other q ≡ true) ↔ IsSameSeen part event p other q

-- Two events that are seen differ first in a part exactly where that differs and those before it don't; a fabric's own parts as it enters the table
-- differ exactly where they are not the same.
pub record IsFirstPart (event other : Event) (p q : PublicPart) (part : Part) : Type 0 where
  pub differs : ¬ IsSameSeen part event p other q
  pub first : (before : Part) → place_of before < place_of part → IsSameSeen before event p other q

abbrev pub PartsComeInOrder : Type 0
PartsComeInOrder = (event other : Event) (p q : PublicPart) (part : Part) → (seen_part event p other q ≡ Some part) ↔ IsFirstPart event other p q part

abbrev pub OwnPartsDiffer : Type 0
OwnPartsDiffer = (one other : OwnPart) → (born_part one other ≡ None) ↔ (one ≡ other)

-- Marks have no part in which they differ exactly where they are the same.
abbrev pub SameMarksHaveNoPart : Type 0
SameMarksHaveNoPart = (one other : Mark) → (part_between one other ≡ None) ↔ (one ≡ other)

-- ALIKE EXACTLY WHERE THE MARKS ARE EQUAL.
abbrev pub EqualMarksDoNotDiffer : Type 0
EqualMarksDoNotDiffer = (given : Environment) (sessions : List SessionRow) (fabric : ℕ) (g : Going) (first second : List Event)
    → (difference given sessions fabric g first second ≡ None) ↔ (marks given sessions fabric g first ≡ marks given sessions fabric g second)

-- what stands at a place of two lists: marks that differ in this part, or one where the other list has ended
abbrev pub DifferThere : Difference → Option Marked → Option Marked → Type 0
DifferThere d (Some one) (Some other) = (part_between one.mark other.mark ≡ Some d.part) × (d.first ≡ Some one.event) × (d.second ≡ Some other.event)
DifferThere d (Some one) None = (d.part ≡ parts.Event) × (d.first ≡ Some one.event) × (d.second ≡ None)
DifferThere d None (Some other) = (d.part ≡ parts.Event) × (d.first ≡ None) × (d.second ≡ Some other.event)
DifferThere d None None = ⊥

-- A difference is the first: all marks before it are the same, and those that have its number, counted from 1, differ as it says.
pub record IsFirst (ones others : List Marked) (d : Difference) : Type 0 where
  pub index : ℕ
  pub number : d.number ≡ index + 1
  pub before : take index (marks_in ones) ≡ take index (marks_in others)
  pub there : DifferThere d (slice_get ones index) (slice_get others index)

abbrev pub DifferencesAreFirst : Type 0
DifferencesAreFirst = (ones others : List Marked) (d : Difference) → difference_from 1 ones others ≡ Some d → IsFirst ones others d
