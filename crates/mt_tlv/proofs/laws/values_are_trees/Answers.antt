use Rattle.mt_tlv.proofs.Same.{tree_value, value_tree}
use Rattle.mt_tlv.proofs.laws.values_are_trees.Goals as goal

pub returns-clause-value : goal.returns-clause-value
returns-clause-value c = value_tree

pub returns-clause-tree : goal.returns-clause-tree
returns-clause-tree c = tree_value
