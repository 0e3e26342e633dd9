use Rattle.std.proofs.Common.{◌++◌, slice_index}
use Rattle.mt_ccm.proofs.WordFacts.{word_bytes-xor}
use Rattle.mt_ccm.proofs.block.first_state.Goals as goal

pub returns : goal.returns
returns c =
    λ i. word_bytes-xor (slice_index c.args.state 0) (slice_index c.args.words.now 0) i
    ++ word_bytes-xor (slice_index c.args.state 1) (slice_index c.args.words.now 1) i
    ++ word_bytes-xor (slice_index c.args.state 2) (slice_index c.args.words.now 2) i
    ++ word_bytes-xor (slice_index c.args.state 3) (slice_index c.args.words.now 3) i
