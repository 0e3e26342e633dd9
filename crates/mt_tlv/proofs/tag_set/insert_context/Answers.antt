use Rattle.mt_tlv.proofs.Tags.{marked}
use Rattle.std.proofs.Common.{arith}
use Rattle.mt_tlv.proofs.tag_set.insert_context.Goals as goal

pub returns-clause-marked : goal.returns-clause-marked
returns-clause-marked c n lt = marked c.args.contexts.now c.args.number (omega arith) n
