use Rattle.std.proofs.Common.{◌∙◌, ap}
use Rattle.mt_tlv.specs.declared.value.Value.TheVariants as values
use Rattle.mt_apps.proofs.Untagged.{elements_members}
use Rattle.mt_apps.proofs.arrays.array_of.Goals as goal

pub returns : goal.returns
returns g c = ap values.Array (c.from_vec.ensures ∙ rw c.in_ok-members.ensures (elements_members c.values_are_trees.ensures.tree g.T.Member.tree_of c.args.items.now))
