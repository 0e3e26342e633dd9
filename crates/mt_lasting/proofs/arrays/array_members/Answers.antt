use Rattle.std.proofs.Common.{◌∙◌}
use Rattle.mt_lasting.proofs.Untagged.{elements_members}
use Rattle.mt_lasting.proofs.arrays.array_members.Goals as goal

pub returns : goal.returns
returns g c = c.from_vec.ensures ∙ rw c.in_ok-members.ensures (elements_members c.values_are_trees.ensures.tree g.T.Element.tree_of c.args.items.now)
