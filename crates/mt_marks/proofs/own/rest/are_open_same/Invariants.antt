use Rattle.std.proofs.Common.{◌≡◌, ◌-◌, length, take}
use Rattle.mt_marks.proofs.own.rest.are_open_same.Given as goal

-- the exchanges so far are the same
abbrev pub invariant-exchanges : goal.invariant-exchanges
invariant-exchanges l = take l.index l.one.table ≡ take l.index l.other.table

abbrev pub decreases-exchanges : goal.decreases-exchanges
decreases-exchanges l = length l.one.table - l.index
