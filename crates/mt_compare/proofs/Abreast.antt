-- Two sides that go on together, mark by mark.
use Rattle.std.proofs.Common.{◌≡◌, ℕ, ◌+◌, List, [], Option, Some, None, sym, ap, ap₂, ◌∙◌}
use Rattle.std.specs.Option.{option_map}
use Rattle.mt_model.specs.declared.texts.config.SessionRow.{SessionRow}
use Rattle.mt_model.specs.declared.texts.recording.Event.{Event}
use Rattle.mt_play.specs.mt_machine.Environment.{Environment}
use Rattle.mt_play.specs.mt_runs.Course.{Going}
use Rattle.mt_play.specs.mt_runs.Marks.{Mark}
use Rattle.mt_play.specs.mt_marks.Part.{Part}
use Rattle.mt_play.specs.mt_marks.TheVariants as parts
use Rattle.mt_play.specs.mt_marks.Difference.{Difference, difference_from, differs, or_further, part_between}
use Rattle.mt_play.specs.mt_marks.Marked.{marked_at}
use Rattle.mt_play.specs.Remembers.{IsRemembering}
use Rattle.mt_compare.specs.Sides.{GoesTo, left_of, line_in, mark_in}
use Rattle.mt_compare.specs.declared.side.Side.{Side}

-- They stand for two runs on their way, and what is found of all their marks is what is found of those that are left, of which the first have this number.
pub record Abreast (given : Environment) (sessions : List SessionRow) (fabric : ℕ) (g h : Going) (mine theirs : Side) (one other : Side) (number : ℕ) : Type 0 where
  pub mine_now : Going
  pub theirs_now : Going
  pub mine_stands : IsRemembering one.node given sessions mine_now
  pub theirs_stands : IsRemembering other.node given sessions theirs_now
  pub same : difference_from 1 (left_of given sessions fabric g mine) (left_of given sessions fabric h theirs)
      ≡ difference_from number (left_of given sessions fabric mine_now one) (left_of given sessions fabric theirs_now other)

module _ (given : Environment) (sessions : List SessionRow) (fabric : ℕ) (g h : Going) (mine theirs one other : Side) (number : ℕ) (a : Abreast given sessions fabric g h mine theirs one other number) where
  abbrev all : Option Difference
  all = difference_from 1 (left_of given sessions fabric g mine) (left_of given sessions fabric h theirs)

  -- neither goes on
  pub both_end : left_of given sessions fabric a.mine_now one ≡ [] → left_of given sessions fabric a.theirs_now other ≡ [] → None ≡ all
  both_end mine_ends theirs_end = sym (a.same ∙ ap₂ (difference_from number) mine_ends theirs_end)

  -- one does
  pub mine_goes : (new : Side) → GoesTo given sessions fabric a.mine_now one new → left_of given sessions fabric a.theirs_now other ≡ [] → Some (differs number parts.Event (option_map line_in new.line) None) ≡ all
  mine_goes new goes theirs_end =
      ap (λ (line : Option Event). Some (differs number parts.Event line None)) goes.at
      ∙ sym (a.same ∙ ap₂ (difference_from number) goes.left theirs_end)

  pub theirs_goes : (new : Side) → left_of given sessions fabric a.mine_now one ≡ [] → GoesTo given sessions fabric a.theirs_now other new → Some (differs number parts.Event None (option_map line_in new.line)) ≡ all
  theirs_goes new mine_ends goes =
      ap (λ (line : Option Event). Some (differs number parts.Event None line)) goes.at
      ∙ sym (a.same ∙ ap₂ (difference_from number) mine_ends goes.left)

  -- both do
  module _ (new_one new_other : Side) (goes : GoesTo given sessions fabric a.mine_now one new_one) (go_too : GoesTo given sessions fabric a.theirs_now other new_other) where
    abbrev mark : Mark
    mark = mark_in fabric goes.now new_one.here

    abbrev other_mark : Mark
    other_mark = mark_in fabric go_too.now new_other.here

    abbrev further : Option Difference
    further = difference_from (number + 1) (left_of given sessions fabric goes.now new_one) (left_of given sessions fabric go_too.now new_other)

    headed : all ≡ or_further number (marked_at goes.line mark) (marked_at go_too.line other_mark) (part_between mark other_mark) further
    headed = a.same ∙ ap₂ (difference_from number) goes.left go_too.left

    pub differ_here : (part : Part) → Some part ≡ part_between mark other_mark → Some (differs number part (option_map line_in new_one.line) (option_map line_in new_other.line)) ≡ all
    differ_here part found =
        ap₂ (λ (first second : Option Event). Some (differs number part first second)) goes.at go_too.at
        ∙ ap (λ (o : Option Part). or_further number (marked_at goes.line mark) (marked_at go_too.line other_mark) o further) found
        ∙ sym headed

    pub go_abreast : None ≡ part_between mark other_mark → Abreast given sessions fabric g h mine theirs new_one new_other (number + 1)
    go_abreast none = record {
      mine_now = goes.now;
      theirs_now = go_too.now;
      mine_stands = goes.stands;
      theirs_stands = go_too.stands;
      same = headed ∙ ap (λ (o : Option Part). or_further number (marked_at goes.line mark) (marked_at go_too.line other_mark) o further) (sym none);
    }
