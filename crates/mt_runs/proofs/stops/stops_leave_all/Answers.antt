use Rattle.mt_runs.proofs.Holding.{stop_leaves}
use Rattle.mt_runs.proofs.stops.stops_leave_all.Goals as goal

pub returns : goal.returns
returns c = stop_leaves
