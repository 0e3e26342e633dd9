use Rattle.std.proofs.Common.{arith, rules}
use Rattle.mt_ccm.proofs.SealFacts.{tail_is}
use Rattle.mt_ccm.proofs.sealing.put_tag.Goals as goal

pub returns : goal.returns
returns c =
    tail_is c.args.bytes.now c.bytes.bytes c.args.tag.now c.args.at c.bytes.j c.requires (omega arith) (search rules) (omega arith)
    c.bytes.invariant.before c.bytes.invariant.written
