-- what was read, and what stands in the blocks from here on, is what stands in all of them
use Rattle.std.proofs.Common.{◌≡◌, drop}
use Rattle.mt_tlv.specs.View.{elements}
use Rattle.mt_im.specs.Blocks.{blocks_of, version_filter_in}
use Rattle.mt_im.proofs.BlockLists.{with_front}
use Rattle.mt_im.proofs.arrays.each_version_filter.Given as goal

abbrev pub invariant-loop-block : goal.invariant-loop-block
invariant-loop-block l = with_front l.versions (blocks_of version_filter_in (elements (drop l.block-index l.blocks))) ≡ blocks_of version_filter_in (elements l.blocks)
