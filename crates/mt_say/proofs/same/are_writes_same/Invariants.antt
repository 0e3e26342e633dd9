use Rattle.std.proofs.Common.{◌≡◌, take}
use Rattle.mt_say.proofs.same.are_writes_same.Given as goal

-- the items so far are the same
abbrev pub invariant-loop-i : goal.invariant-loop-i
invariant-loop-i l = take l.i l.writes ≡ take l.i l.others
