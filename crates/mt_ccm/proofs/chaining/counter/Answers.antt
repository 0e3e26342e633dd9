use Rattle.mt_ccm.specs.Ccm.{counter_block}
use Rattle.mt_ccm.proofs.chaining.counter.Goals as goal

pub returns : goal.returns
unfolding counter_block
returns c = c.block_of.ensures
