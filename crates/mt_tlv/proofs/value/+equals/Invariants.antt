use Rattle.std.proofs.Common.{◌≡◌, take}
use Rattle.mt_tlv.proofs.value.+equals.Given as goal

-- the members so far are the same
abbrev pub invariant-Members::equals-loop-i : goal.invariant-Members::equals-loop-i
invariant-Members::equals-loop-i l = take l.i l.self-inside.items.items ≡ take l.i l.other-inside.items.items
