use Rattle.std.proofs.Common.{◌≡◌, take}
use Rattle.mt_say.proofs.scripted.are_steps_same.Given as goal

-- the requests so far are the same
abbrev pub invariant-loop-i : goal.invariant-loop-i
invariant-loop-i l = take l.i l.steps ≡ take l.i l.others
