use Rattle.std.proofs.Common.{◌≡◌, ◌++◌, drop}
use Rattle.mt_tlv.specs.Narrow.{narrow_elements}
use Rattle.mt_model.specs.Trees.{untagged}
use Rattle.mt_im.specs.Requests.{write_tree}
use Rattle.mt_im_out.proofs.requests.write_write_blocks.Given as goal

-- what is written and what is still to be written, behind what was there
abbrev pub invariant-items : goal.invariant-items
invariant-items l = l.out.items ++ narrow_elements (untagged write_tree (drop l.item-index l.items)) ≡ l.initial.out.items ++ narrow_elements (untagged write_tree l.items)
