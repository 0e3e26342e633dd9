use Rattle.mt_runs.proofs.Calls.{change, keep}
use Rattle.mt_runs.proofs.stops.lines_make_calls_where_what_lasts_changes.Goals as goal

pub returns-clause-none : goal.returns-clause-none
returns-clause-none c = keep c.changes_lead_on.ensures.empty

pub returns-clause-four : goal.returns-clause-four
returns-clause-four c = change c.changes_lead_on.ensures.empty
