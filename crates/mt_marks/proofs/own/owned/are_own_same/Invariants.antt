use Rattle.std.proofs.Common.{◌≡◌, ◌↔◌, filter, length}
use Rattle.mt_marks.proofs.own.owned.are_own_same.Given as goal

-- the lists have the same of the fabric exactly where what is left of them has
abbrev pub invariant-items : goal.invariant-items
invariant-items g l =
    let own = g.T.Owned.is_own l.fabric in
    (filter own l.one ≡ filter own l.other) ↔ (filter own l.mine ≡ filter own l.theirs)

abbrev pub decreases-items : goal.decreases-items
decreases-items g l = length l.mine
