-- each container opened leaves room for one fewer
use Rattle.std.proofs.Common.{ℕ, ◌+◌, ◌*◌}
use Rattle.mt_say.proofs.values.+value.Given as goal

abbrev pub decreases-array : goal.decreases-array
decreases-array l = 3 * l.room + 1

abbrev pub decreases-list : goal.decreases-list
decreases-list l = 3 * l.room + 2

abbrev pub decreases-list_member : goal.decreases-list_member
decreases-list_member l = 3 * l.room + 1

abbrev pub decreases-structure : goal.decreases-structure
decreases-structure l = 3 * l.room + 1

abbrev pub decreases-value : goal.decreases-value
decreases-value l = 3 * l.room
