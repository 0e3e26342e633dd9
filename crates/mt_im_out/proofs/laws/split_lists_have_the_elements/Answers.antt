use Rattle.mt_im_out.proofs.Splits.{brought_by_split}
use Rattle.mt_im_out.proofs.laws.split_lists_have_the_elements.Goals as goal

pub returns : goal.returns
returns c = brought_by_split c.values_are_trees.ensures.tree
