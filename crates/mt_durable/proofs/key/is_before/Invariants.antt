use Rattle.std.proofs.Common.{◌≡◌, length}
use Rattle.mt_durable.specs.Keys.{is_before}
use Rattle.mt_durable.proofs.key.is_before.Given as goal

-- the bytes before these are the same
abbrev pub invariant-bytes : goal.invariant-bytes
invariant-bytes l = is_before l.left l.right ≡ is_before l.key l.other

abbrev pub decreases-bytes : goal.decreases-bytes
decreases-bytes l = length l.left
