-- The first part in which two marks differ that the code has.
use Rattle.std.proofs.Common.{◌≡◌, ◌↔◌, ◌<◌, Bool, true, false, List, [], ◌∷◌, Option, Some, None, refl, sym, ap, ◌∙◌, map, if◌then◌else◌}
use Rattle.std.proofs.lemmas.Bool.{false_from_ne_true}
use Rattle.std.specs.Option.{option_map}
use Rattle.std.specs.Prelude.{IfSome}
use Rattle.mt_model.specs.declared.texts.recording.Event.{Event}
use Rattle.mt_play.specs.mt_machine.Isolation as machine
use Rattle.mt_play.specs.mt_runs.Isolation.{OwnPart, PublicPart}
use Rattle.mt_play.specs.mt_runs.Marks.{Unanswered, reopened, seen}
use Rattle.mt_play.specs.mt_marks.Parts.{IsSame, place_of}
use Rattle.mt_play.specs.mt_marks.Seen.{descriptor_in, public_in, unanswered_in}
use Rattle.mt_play.specs.mt_marks.Part.{Part}
use Rattle.mt_play.specs.mt_marks.TheVariants as parts
use Rattle.mt_play.specs.mt_marks.Descriptor.{Descriptor}
use Rattle.mt_play.specs.mt_marks.Mark.{Mark}
use Rattle.mt_play.specs.mt_marks.Unanswered as code
use Rattle.mt_play.specs.mt_marks.Codes.{are_same, of_own, of_unanswered}
use Rattle.mt_play.specs.mt_marks.Difference.{born_part, reopened_part}
use Rattle.mt_play.specs.mt_marks.Laws.{OwnPartsDiffer, PartsComeInOrder, SameMarksHaveNoPart}
use Rattle.mt_play.specs.mt_marks.DifferencesParts.{IsSameSeen, seen_part}

-- A descriptor says all that one as data does.

abbrev back : machine.Descriptor → Descriptor
back d = record { index = d.index; root_key = d.root_key; vendor = d.vendor; fabric_id = d.fabric_id; node_id = d.node_id; label = d.label }

all_back : (all : List Descriptor) → map back (map descriptor_in all) ≡ all
all_back [] = refl
all_back (d ∷ all) = ap (λ (rest : List Descriptor). d ∷ rest) (all_back all)

descriptors_same : (ones others : List Descriptor) → map descriptor_in ones ≡ map descriptor_in others → ones ≡ others
descriptors_same ones others same = sym (all_back ones) ∙ ap (map back) same ∙ all_back others

-- A part is the same in two marks exactly where it is in what they say.
same_in : (part : Part) (one other : Mark) → IsSame part one other ↔ IsSameSeen part one.event (public_in one) other.event (public_in other)
same_in parts.Event one other = (λ h. h, λ h. h)
same_in parts.Born one other = (λ h. h, λ h. h)
same_in parts.Rows one other = (λ h. h, λ h. h)
same_in parts.Fabrics one other = (ap (map descriptor_in), descriptors_same one.fabrics other.fabrics)
same_in parts.Roots one other = (λ h. h, λ h. h)
same_in parts.Networks one other = (λ h. h, λ h. h)
same_in parts.Failsafe one other = (λ h. h, λ h. h)
same_in parts.Versions one other = (λ h. h, λ h. h)
same_in parts.Events one other = (λ h. h, λ h. h)
same_in parts.Numbers one other = (λ h. h, λ h. h)
same_in parts.Boot one other = (λ h. h, λ h. h)
same_in parts.Now one other = (λ h. h, λ h. h)

module _ (in_order : PartsComeInOrder) (no_part : SameMarksHaveNoPart) (one other : Mark) where
  abbrev first : Option Part
  first = seen_part one.event (public_in one) other.event (public_in other)

  pub found_part : (found : Option Part) → (found ≡ None) ↔ (one ≡ other) → IfSome found (λ part. ¬ IsSame part one other)
      → IfSome found (λ part. (before : Part) → place_of before < place_of part → IsSame before one other) → found ≡ first
  found_part None none differs before =
      let same : one ≡ other = none.0 refl in
      sym ((no_part (seen one.event (public_in one)) (seen other.event (public_in other))).1 (ap (λ (mark : Mark). seen mark.event (public_in mark)) same))
  found_part (Some part) none differs before =
      sym ((in_order one.event other.event (public_in one) (public_in other) part).1 (record {
        differs = λ h. differs ((same_in part one other).1 h);
        first = λ b lt. (same_in b one other).0 (before b lt);
      }))

-- Which event was left unanswered, as data, says all that one as written does.

abbrev back_left : Unanswered → code.Unanswered
back_left left = record { event = left.event; survived = left.survived }

left_again : (left : Option code.Unanswered) → option_map back_left (option_map unanswered_in left) ≡ left
left_again None = refl
left_again (Some left) = refl

left_same : (left left_too : Option code.Unanswered) → option_map unanswered_in left ≡ option_map unanswered_in left_too → left ≡ left_too
left_same left left_too same = sym (left_again left) ∙ ap (option_map back_left) same ∙ left_again left_too

same_left : (line : Event) (p : PublicPart) (left left_too : Option Unanswered) → reopened line p left ≡ reopened line p left_too → left ≡ left_too
same_left line p left left_too same = cc

-- Two reopenings by one line, with the same public part, have no part in which they differ exactly where the same event was left unanswered.
module _ (no_part : SameMarksHaveNoPart) (line : Event) (p : PublicPart) where
  abbrev by_left : Bool → Option Part
  by_left same = if same then seen_part line p line p else Some parts.Event

  no_part_of_one : by_left true ≡ None
  no_part_of_one = (no_part (seen line p) (seen line p)).1 refl

  told_alike : (same : Bool) → by_left same ≡ None → same ≡ true
  told_alike true none = refl
  told_alike false none = absurd (let clash : Some parts.Event ≡ None = none in cc)

  alike_where_same : (left left_too : Option Unanswered) → left ≡ left_too → are_same of_unanswered left left_too ≡ true
  alike_where_same left left_too same = told_alike (are_same of_unanswered left left_too) ((no_part (reopened line p left) (reopened line p left_too)).1 (ap (reopened line p) same))

  other_where_not : (left left_too : Option Unanswered) → (left ≡ left_too → ⊥) → are_same of_unanswered left left_too ≡ false
  other_where_not left left_too differ =
      false_from_ne_true (are_same of_unanswered left left_too)
      (λ alike. differ (same_left line p left left_too ((no_part (reopened line p left) (reopened line p left_too)).0 (ap by_left alike ∙ no_part_of_one))))

module _ (no_part : SameMarksHaveNoPart) (one other : Mark) (left left_too : Option code.Unanswered) where
  abbrev part_of : Bool → Option Part
  part_of same = if same then seen_part one.event (public_in one) other.event (public_in other) else Some parts.Event

  abbrev part_found : Option Part
  part_found = reopened_part one.event (public_in one) (option_map unanswered_in left) other.event (public_in other) (option_map unanswered_in left_too)

  pub reopened_alike : left ≡ left_too → part_of true ≡ part_found
  reopened_alike same = sym (ap part_of (alike_where_same no_part one.event (public_in one) (option_map unanswered_in left) (option_map unanswered_in left_too) (ap (option_map unanswered_in) same)))

  pub reopened_other : (left ≡ left_too → ⊥) → part_of false ≡ part_found
  reopened_other differ =
      sym (ap part_of (other_where_not no_part one.event (public_in one) (option_map unanswered_in left) (option_map unanswered_in left_too) (λ same. differ (left_same left left_too same))))

-- Own parts that are not the same.
by_same : (b : Bool) → ((if b then None else Some parts.Born) ≡ None → ⊥) → (if b then None else Some parts.Born) ≡ Some parts.Born
by_same true other = absurd (other refl)
by_same false other = refl

pub born_other : OwnPartsDiffer → (one other : OwnPart) → (one ≡ other → ⊥) → Some parts.Born ≡ born_part one other
born_other law one other differ = sym (by_same (are_same of_own one other) (λ none. differ ((law one other).0 none)))
