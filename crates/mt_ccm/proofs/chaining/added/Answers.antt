use Rattle.std.proofs.Common.{rules, arith}
use Rattle.mt_ccm.proofs.StreamFacts.{sum_is}
use Rattle.mt_ccm.proofs.chaining.added.Goals as goal

pub returns : goal.returns
returns c =
    sum_is c.args.block.now c.args.bytes.now c.bytes.sum c.bytes.j (search rules) c.requires (omega arith) c.bytes.invariant.size c.bytes.invariant.done
    c.bytes.invariant.rest
