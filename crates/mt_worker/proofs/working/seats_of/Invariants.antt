use Rattle.std.proofs.Common.{map, take}
use Rattle.mt_worker.specs.Accounts.{Accounts}
use Rattle.mt_worker.specs.Due.{HaveBegun, id_of}
use Rattle.mt_worker.specs.Seats.{AreSeats}
use Rattle.mt_worker.proofs.working.seats_of.Given as goal

-- the rows so far have their seats
abbrev pub invariant-loop-row : goal.invariant-loop-row
invariant-loop-row l = (accounts : Accounts) → HaveBegun l.rows accounts → AreSeats l.seats.items (map id_of (take l.row-index l.rows)) accounts
