use Rattle.std.proofs.Common.{◌≡◌, ◌+◌, ◌-◌, ◌^◌, ◌≤◌, min, length, drop}
use Rattle.mt_tlv.specs.Narrow.{narrow_elements}
use Rattle.mt_tlv.specs.Tree.{tree_size, elements_size}
use Rattle.mt_tlv.specs.View.{tree, elements}
use Rattle.mt_model.proofs.messages.size.+size.Given as goal

abbrev pub decreases-members_size : goal.decreases-members_size
decreases-members_size l = elements_size l.members.now

abbrev pub decreases-value_size : goal.decreases-value_size
decreases-value_size l = tree_size (tree l.value.now)

-- what is counted so far, and the length of the members that are not counted yet
abbrev pub invariant-members_size-loop-tag : goal.invariant-members_size-loop-tag
invariant-members_size-loop-tag l = record {
  fits : l.total ≤ 2 ^ 64 - 1;
  counted : min (l.total + length (narrow_elements (elements (drop l.tag-index l.all)))) (2 ^ 64 - 1) ≡ min (1 + length (narrow_elements (elements l.all))) (2 ^ 64 - 1);
}
