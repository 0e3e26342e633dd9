-- Where two lists of marks first differ.
use Rattle.std.proofs.Common.{◌≡◌, ◌↔◌, ℕ, ◌+◌, suc, List, [], ◌∷◌, Option, Some, None, refl, ap, subst, ◌∙◌, arith, take, slice_get}
use Rattle.mt_runs.specs.Marks.{Mark}
use Rattle.mt_marks.specs.declared.difference.Part.{Part}
use Rattle.mt_marks.specs.differences.Difference.{Difference, difference_from, differs, or_further, part_between}
use Rattle.mt_marks.specs.differences.Laws.{DifferThere, IsFirst, SameMarksHaveNoPart}
use Rattle.mt_marks.specs.differences.Marked.{Marked, marks_in}

further_none : (number : ℕ) (one other : Marked) (part : Option Part) (further : Option Difference) → or_further number one other part further ≡ None → (part ≡ None) × (further ≡ None)
further_none number one other None further none = (refl, none)
further_none number one other (Some part) further none = absurd (cc)

some_same : (d e : Difference) → Some d ≡ Some e → d ≡ e
some_same d e is = cc

heads_same : (m n : Mark) (ms ns : List Mark) → m ∷ ms ≡ n ∷ ns → (m ≡ n) × (ms ≡ ns)
heads_same m n ms ns same = (cc, cc)

module _ (no_part : SameMarksHaveNoPart) where
  none_alike : (number : ℕ) (ones others : List Marked) → difference_from number ones others ≡ None → marks_in ones ≡ marks_in others
  none_alike number [] [] none = refl
  none_alike number (one ∷ ones) [] none = absurd (cc)
  none_alike number [] (other ∷ others) none = absurd (cc)
  none_alike number (one ∷ ones) (other ∷ others) none =
      let both = further_none number one other (part_between one.mark other.mark) (difference_from (number + 1) ones others) none in
      let same = (no_part one.mark other.mark).0 both.0 in
      let rest = none_alike (number + 1) ones others both.1 in
      λ i. same i ∷ rest i

  alike_none : (number : ℕ) (ones others : List Marked) → marks_in ones ≡ marks_in others → difference_from number ones others ≡ None
  alike_none number [] [] same = refl
  alike_none number (one ∷ ones) [] same = absurd (cc)
  alike_none number [] (other ∷ others) same = absurd (cc)
  alike_none number (one ∷ ones) (other ∷ others) same =
      let both = heads_same one.mark other.mark (marks_in ones) (marks_in others) same in
      let here : part_between one.mark other.mark ≡ None = (no_part one.mark other.mark).1 both.0 in
      ap (λ (part : Option Part). or_further number one other part (difference_from (number + 1) ones others)) here ∙ alike_none (number + 1) ones others both.1

  pub alike_where_equal : (number : ℕ) (ones others : List Marked) → (difference_from number ones others ≡ None) ↔ (marks_in ones ≡ marks_in others)
  alike_where_equal number ones others = (none_alike number ones others, alike_none number ones others)

-- The difference stands at this place of the lists, where the first marks have this number.
record IsAt (number : ℕ) (ones others : List Marked) (d : Difference) : Type 0 where
  index : ℕ
  counts : d.number ≡ number + index
  before : take index (marks_in ones) ≡ take index (marks_in others)
  there : DifferThere d (slice_get ones index) (slice_get others index)

here : (number : ℕ) (ones others : List Marked) (d : Difference) → d.number ≡ number → DifferThere d (slice_get ones 0) (slice_get others 0) → IsAt number ones others d
here number ones others d counts there = record { index = 0; counts = omega (arith, counts); before = refl; there = there }

module _ (no_part : SameMarksHaveNoPart) where
  -- of the two marks at the head, or of what is behind them
  at_head : (number : ℕ) (one other : Marked) (ones others : List Marked) (part : Option Part) (further : Option Difference) (d : Difference)
      → part_between one.mark other.mark ≡ part → ((e : Difference) → further ≡ Some e → IsAt (number + 1) ones others e)
      → or_further number one other part further ≡ Some d → IsAt number (one ∷ ones) (other ∷ others) d
  at_head number one other ones others None further d between rest is =
      let r = rest d is in
      let same : one.mark ≡ other.mark = (no_part one.mark other.mark).0 between in
      record { index = suc r.index; counts = omega (arith, r.counts); before = λ i. same i ∷ r.before i; there = r.there }
  at_head number one other ones others (Some part) further d between rest is =
      let told : differs number part (Some one.event) (Some other.event) ≡ d = some_same _ _ is in
      subst (λ (e : Difference). IsAt number (one ∷ ones) (other ∷ others) e) told
      (here number (one ∷ ones) (other ∷ others) (differs number part (Some one.event) (Some other.event)) refl (between, refl, refl))

  first_at : (number : ℕ) (ones others : List Marked) (d : Difference) → difference_from number ones others ≡ Some d → IsAt number ones others d
  first_at number [] [] d is = absurd (cc)
  first_at number (one ∷ ones) [] d is = subst (λ (e : Difference). IsAt number (one ∷ ones) [] e) (some_same _ _ is) (here number (one ∷ ones) [] _ refl (refl, refl, refl))
  first_at number [] (other ∷ others) d is = subst (λ (e : Difference). IsAt number [] (other ∷ others) e) (some_same _ _ is) (here number [] (other ∷ others) _ refl (refl, refl, refl))
  first_at number (one ∷ ones) (other ∷ others) d is =
      at_head number one other ones others (part_between one.mark other.mark) (difference_from (number + 1) ones others) d refl (first_at (number + 1) ones others) is

  pub differences_are_first : (ones others : List Marked) (d : Difference) → difference_from 1 ones others ≡ Some d → IsFirst ones others d
  differences_are_first ones others d is =
      let a = first_at 1 ones others d is in
      record { index = a.index; number = omega (arith, a.counts); before = a.before; there = a.there }
