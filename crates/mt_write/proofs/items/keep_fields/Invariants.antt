use Rattle.std.proofs.Common.{◌≡◌, ◌++◌, drop}
use Rattle.mt_tlv.specs.View.{elements}
use Rattle.mt_write.specs.Items.{kept_fields}
use Rattle.mt_write.proofs.items.keep_fields.Given as goal

-- what was kept so far, and what is kept of the rest
abbrev pub invariant-loop-row : goal.invariant-loop-row
invariant-loop-row l = l.kept.items ++ kept_fields l.fabric (drop l.row-index l.fields) (elements l.members) ≡ kept_fields l.fabric l.fields (elements l.members)
