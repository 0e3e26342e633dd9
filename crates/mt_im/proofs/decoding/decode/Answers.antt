use Rattle.mt_im.proofs.RequestLaws.{only_in_front}
use Rattle.mt_im.proofs.decoding.decode.Goals as goal

pub returns-clause-only : goal.returns-clause-only
returns-clause-only c = only_in_front c.values_are_trees.ensures.tree c.values_are_trees.ensures.value c.element_is_read.ensures c.args.opcode c.args.bytes.now c.request_in_front.result c.request_in_front.ensures.exact
