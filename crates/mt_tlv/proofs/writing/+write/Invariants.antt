use Rattle.std.proofs.Common.{◌≡◌, ◌++◌, drop}
use Rattle.std.specs.Io.{StartsWith}
use Rattle.mt_tlv.specs.View.{elements}
use Rattle.mt_tlv.specs.Narrow.{narrow_elements}
use Rattle.mt_tlv.proofs.writing.+write.Given as goal

-- what is written and what is still to be written, behind what was there
abbrev pub invariant-write_members-loop-tag : goal.invariant-write_members-loop-tag
invariant-write_members-loop-tag l = record {
  so_far : l.out.items ++ narrow_elements (elements (drop l.tag-index l.tag-items)) ≡ l.initial.out.items ++ narrow_elements (elements l.tag-items);
  kept : StartsWith l.out.items l.initial.out.items;
}
