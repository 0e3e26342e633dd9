use Rattle.std.proofs.Common.{◌≡◌, take}
use Rattle.mt_lasting.proofs.equal.are_equal.Given as goal

-- the items so far are equal
abbrev pub invariant-loop-i : goal.invariant-loop-i
invariant-loop-i g l = take l.i l.items ≡ take l.i l.others
