use Rattle.mt_keeping.proofs.Recoveries.{kept_recovered, stops_recovered}
use Rattle.mt_keeping.proofs.laws.journals_are_recovered.Goals as goal

pub returns-clause-kept : goal.returns-clause-kept
returns-clause-kept c = kept_recovered

pub returns-clause-stopped : goal.returns-clause-stopped
returns-clause-stopped c = stops_recovered c.restarts_hold.ensures
