use Rattle.std.proofs.Common.{◌≡◌, ◌++◌, drop}
use Rattle.mt_tlv.specs.Narrow.{narrow_elements}
use Rattle.mt_model.specs.Trees.{untagged}
use Rattle.mt_model.specs.messages.Blocks.{item_tree}
use Rattle.mt_im_out.specs.Chunks.{event_items}
use Rattle.mt_im_out.proofs.reports.event_blocks.Given as goal

-- what is written and what is still to be written
abbrev pub invariant-items : goal.invariant-items
invariant-items l = l.blocks.items ++ narrow_elements (untagged item_tree (event_items (drop l.item-index l.items))) ≡ narrow_elements (untagged item_tree (event_items l.items))
