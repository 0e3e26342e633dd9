use Rattle.std.proofs.Common.{◌≡◌, ◌++◌, drop}
use Rattle.mt_lasting.specs.Arrays.{members}
use Rattle.mt_lasting.proofs.arrays.members.Given as goal

-- the members so far and those of the items to come are the members of all items
abbrev pub invariant-loop-item : goal.invariant-loop-item
invariant-loop-item g l = l.members.items ++ members g.T.Element.tree_of (drop l.item-index l.items) ≡ members g.T.Element.tree_of l.items
