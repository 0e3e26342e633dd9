use Rattle.std.proofs.Common.{◌≡◌, take}
use Rattle.mt_same.proofs.same.are_items_same.Given as goal

-- the items so far are the same
abbrev pub invariant-loop-i : goal.invariant-loop-i
invariant-loop-i g l = take l.i l.one ≡ take l.i l.other
