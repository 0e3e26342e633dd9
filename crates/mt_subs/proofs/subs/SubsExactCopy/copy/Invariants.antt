-- the copies so far, followed by those that are left, are all
use Rattle.std.proofs.Common.{◌≡◌, ◌++◌, drop}
use Rattle.mt_subs.proofs.subs.SubsExactCopy.copy.Given as goal

abbrev pub invariant-loop-s : goal.invariant-loop-s
invariant-loop-s l = l.subscriptions.items ++ drop l.s-index l.s-items ≡ l.s-items
