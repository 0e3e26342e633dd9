use Rattle.std.proofs.Common.{◌≡◌, ◌++◌, drop}
use Rattle.mt_tlv.specs.Narrow.{narrow_elements}
use Rattle.mt_im_out.specs.Messages.{status_elements}
use Rattle.mt_im_out.proofs.answers.write_statuses.Given as goal

-- what is written and what is still to be written, behind what was there
abbrev pub invariant-items : goal.invariant-items
invariant-items l = l.out.items ++ narrow_elements (status_elements (drop l.item-index l.items)) ≡ l.initial.out.items ++ narrow_elements (status_elements l.items)
