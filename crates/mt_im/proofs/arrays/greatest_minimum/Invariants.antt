-- the greatest of what was read and of what stands in the blocks from here on is the greatest of all
use Rattle.std.proofs.Common.{◌≡◌, drop, option_map}
use Rattle.mt_tlv.specs.View.{elements}
use Rattle.mt_im.specs.Fields.{greatest}
use Rattle.mt_im.specs.Blocks.{blocks_of, event_filter_in}
use Rattle.mt_im.proofs.BlockLists.{with_least}
use Rattle.mt_im.proofs.arrays.greatest_minimum.Given as goal

abbrev pub invariant-loop-block : goal.invariant-loop-block
invariant-loop-block l = with_least l.greatest (blocks_of event_filter_in (elements (drop l.block-index l.blocks))) ≡ option_map greatest (blocks_of event_filter_in (elements l.blocks))
