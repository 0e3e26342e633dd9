use Rattle.mt_im.proofs.RequestLaws.{tree_found}
use Rattle.mt_im.proofs.laws.request_is_spelled.Goals as goal

pub returns : goal.returns
returns c = λ opcode request v h. tree_found c.values_are_trees.ensures.tree c.values_are_trees.ensures.value opcode v request h
