use Rattle.std.proofs.Common.{◌++◌, slice_index}
use Rattle.mt_ccm.proofs.WordFacts.{word_bytes-xor}
use Rattle.mt_ccm.proofs.block.sum.Goals as goal

pub returns : goal.returns
returns c =
    λ i. word_bytes-xor (slice_index c.args.block 0) (slice_index c.args.other 0) i
    ++ word_bytes-xor (slice_index c.args.block 1) (slice_index c.args.other 1) i
    ++ word_bytes-xor (slice_index c.args.block 2) (slice_index c.args.other 2) i
    ++ word_bytes-xor (slice_index c.args.block 3) (slice_index c.args.other 3) i
