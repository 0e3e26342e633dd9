use Rattle.std.proofs.Common.{◌≡◌, ◌≤◌, filter, length}
use Rattle.mt_marks.proofs.own.owned.next_own.Given as goal

-- what is left has all of the fabric's own
abbrev pub invariant-items : goal.invariant-items
invariant-items g l =
    let own = g.T.Owned.is_own l.fabric in
    (filter own l.items ≡ filter own l.rest) × (length l.rest ≤ length l.items)

abbrev pub decreases-items : goal.decreases-items
decreases-items g l = length l.rest
