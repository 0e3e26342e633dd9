use Rattle.std.proofs.Common.{◌≡◌, drop}
use Rattle.mt_tlv.specs.View.{elements}
use Rattle.mt_write.specs.Items.{kept_each}
use Rattle.mt_write.proofs.KeptEach.{with_front}
use Rattle.mt_write.proofs.items.keep_each.Given as goal

-- what was kept, and what is kept of the items from here on, is what is kept of all
abbrev pub invariant-loop-item : goal.invariant-loop-item
invariant-loop-item g l = with_front l.kept (kept_each (g.T.ListItem.kept_as l.fields l.fabric) l.left (elements (drop l.item-index l.items))) ≡ kept_each (g.T.ListItem.kept_as l.fields l.fabric) l.room (elements l.items)
