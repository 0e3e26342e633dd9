use Rattle.std.proofs.Common.{length}
use Rattle.mt_crew.proofs.seating.+seat_all.Given as goal

abbrev pub decreases-seat_all : goal.decreases-seat_all
decreases-seat_all g l = length l.outlets.now.items
