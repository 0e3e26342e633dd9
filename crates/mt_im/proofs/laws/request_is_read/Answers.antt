use Rattle.mt_im.proofs.RequestLaws.{tree_only, bytes_only}
use Rattle.mt_im.proofs.laws.request_is_read.Goals as goal

pub returns-clause-tree : goal.returns-clause-tree
returns-clause-tree c = λ opcode request v s few. tree_only c.values_are_trees.ensures.tree c.values_are_trees.ensures.value opcode v request s few

pub returns-clause-bytes : goal.returns-clause-bytes
returns-clause-bytes c = λ opcode request bytes r. bytes_only c.values_are_trees.ensures.tree c.values_are_trees.ensures.value c.element_is_read.ensures opcode bytes request r
