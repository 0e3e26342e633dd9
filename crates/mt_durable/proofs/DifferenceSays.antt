-- The differences of two images: they lead from the one to the other, and are a change where they are short enough.
use Rattle.std.proofs.Common.{◌≡◌, ◌≤◌, ◌+◌, ℕ, true, List, [], ◌∷◌, ◌++◌, length, refl, sym, ap, ◌∙◌, subst, arith}
use Rattle.std.specs.Prelude.{Option, Some, None}
use Rattle.std.specs.List.{AllByRecursion}
use Rattle.mt_tlv.specs.Limits.{IsAllowed, IsElement, IsTag, deepest, longest}
use Rattle.mt_tlv.specs.Narrow.{narrow}
use Rattle.mt_tlv.specs.Tree.{Tree}
use Rattle.mt_tlv.specs.declared.value.Tag.{Tag}
use Rattle.mt_durable.specs.Changes.{change_bytes, entry_tree}
use Rattle.mt_durable.specs.Differences.{difference_bytes, differences, gone}
use Rattle.mt_durable.specs.Fronts.{entry_bytes}
use Rattle.mt_durable.specs.Images.{IsImage}
use Rattle.mt_durable.specs.Keys.{is_same}
use Rattle.mt_durable.specs.Reading.{Says, change_at, said}
use Rattle.mt_durable.specs.Setting.{with_all}
use Rattle.mt_durable.specs.declared.durable.Entry.{Entry}
use Rattle.mt_durable.proofs.Adding.{length-change, size_more}
use Rattle.mt_durable.proofs.Allowed.{AllAllowed, all_allowed, each_allowed, image_says}
use Rattle.mt_durable.proofs.Differing.{ascends, by_first, leads}
use Rattle.mt_durable.proofs.Keys.{same_is}

-- What is allowed of both maps is allowed of what is set from the one to the other.
gone_allowed : (one : Entry) → IsAllowed (entry_tree one) 15 → IsAllowed (entry_tree (gone one)) 15
gone_allowed one is = (is.0, is.1, is.2, tt)

differences_allowed : (from to : List Entry) → AllAllowed from → AllAllowed to → AllAllowed (differences from to)
differences_allowed [] to all each = each
differences_allowed (one ∷ map) [] all each = (gone_allowed one all.0, differences_allowed map [] all.1 tt)
differences_allowed (one ∷ map) (other ∷ others) all each = by_first one other map others AllAllowed
    (λ before. (each.0, differences_allowed (one ∷ map) others all each.1))
    (λ same bytes. differences_allowed map others all.1 each.1)
    (λ same. (each.0, differences_allowed map others all.1 each.1))
    (λ lower. (gone_allowed one all.0, differences_allowed map (other ∷ others) all.1 each))

-- An entry of an image is a change of its own, so it is known by its bytes.
abbrev SaysOne : Entry → Type 0
SaysOne entry = Says (entry ∷ []) (change_bytes (entry ∷ []))

abbrev first_of_said : Entry → Option (List Entry) → Entry
first_of_said entry (Some (one ∷ entries)) = one
first_of_said entry (Some []) = entry
first_of_said entry None = entry

module _ (is_element : (tag : Tag) (v : Tree) → IsTag tag → IsAllowed v deepest → length (narrow tag v) ≤ longest → IsElement tag v (narrow tag v))
    (read : (entries : List Entry) (bytes : List ℕ) → Says entries bytes → change_at bytes ≡ Some entries) where
  known : (one other : Entry) → SaysOne one → SaysOne other → is_same (entry_bytes one) (entry_bytes other) ≡ true → one ≡ other
  known one other is too same =
      let bytes : change_bytes (one ∷ []) ≡ change_bytes (other ∷ []) = ap (λ (l : List ℕ). 22 ∷ (l ++ []) ++ 24 ∷ []) (same_is (entry_bytes one) (entry_bytes other) same) in
      ap (first_of_said one) (sym (read (one ∷ []) (change_bytes (one ∷ [])) is) ∙ ap change_at bytes ∙ read (other ∷ []) (change_bytes (other ∷ [])) too)

  each_says : (entries : List Entry) → AllAllowed entries → length (change_bytes entries) ≤ longest → AllByRecursion SaysOne entries
  each_says [] all short = tt
  each_says (entry ∷ entries) all short =
      let whole : length (entry_bytes entry) + length (change_bytes entries) ≤ longest = omega (arith, size_more entry entries, length-change (entry ∷ entries), length-change entries, short) in
      let own : length (change_bytes (entry ∷ [])) ≤ longest = omega (arith, size_more entry [], length-change (entry ∷ []), length-change entries, whole) in
      let rest : length (change_bytes entries) ≤ longest = omega (arith, whole) in
      (image_says is_element (entry ∷ []) refl (all_allowed (entry ∷ []) [] (all.0, tt)) own, each_says entries all.1 rest)

  -- what an image has
  all_of : (bytes : List ℕ) → IsImage bytes → AllAllowed (said bytes)
  all_of bytes is = each_allowed (said bytes) [] is.0.element.allowed

  each_of : (bytes : List ℕ) → IsImage bytes → AllByRecursion SaysOne (said bytes)
  each_of bytes is = each_says (said bytes) (all_of bytes is) (subst (λ (b : List ℕ). length b ≤ longest) is.0.narrow is.0.element.short)

  pub differences_lead : (from to : List ℕ) → IsImage from → IsImage to → with_all (differences (said from) (said to)) (said from) ≡ said to
  differences_lead from to is too = leads SaysOne known (said from) (said to) (each_of from is) (each_of to too) is.0.ascend too.0.ascend too.1

  pub differences_say : (from to : List ℕ) → IsImage from → IsImage to → length (difference_bytes from to) ≤ longest → Says (differences (said from) (said to)) (difference_bytes from to)
  differences_say from to is too short =
      let change = differences (said from) (said to) in
      image_says is_element change (ascends (said from) (said to) is.0.ascend too.0.ascend)
      (all_allowed change [] (differences_allowed (said from) (said to) (all_of from is) (all_of to too))) short
