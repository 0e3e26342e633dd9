use Rattle.std.proofs.Common.{◌≡◌, take}
use Rattle.mt_tlv.proofs.value.+copy.Given as goal

abbrev pub invariant-Members::copy-loop-tag : goal.invariant-Members::copy-loop-tag
invariant-Members::copy-loop-tag l = l.items.items ≡ take l.tag-index l.tag-items
